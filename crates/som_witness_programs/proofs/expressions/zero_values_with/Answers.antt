use Rattle.som_witness_programs.proofs.Joined.{values_all, values_on}
use Rattle.som_witness_programs.proofs.expressions.zero_values_with.Goals as goal

pub loop-at-preserved : goal.loop-at-preserved
loop-at-preserved c =
    values_on c.args.place c.loop-at.at c.args.params.now c.index-params-at.result c.loop-at.values c.push.new.self c.value_at.result
    c.loop-at-test.true c.index-params-at.is c.loop-at.invariant c.in_ok-push.ensures.ok c.value_at.ensures

pub returns : goal.returns
returns c = values_all c.args.place c.loop-at.at c.args.params.now c.loop-at.values c.loop-at-test.false c.loop-at.invariant
