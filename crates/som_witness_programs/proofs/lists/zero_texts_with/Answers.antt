use Rattle.std.proofs.Common.{◌∙◌}
use Rattle.som_witness_programs.proofs.Joined.{texts_all, texts_on}
use Rattle.som_witness_programs.proofs.lists.zero_texts_with.Goals as goal

pub loop-at-preserved : goal.loop-at-preserved
loop-at-preserved c =
    texts_on c.args.place c.loop-at.at c.args.params.now c.index-params-at.result c.loop-at.values c.push.new.self c.in_ok-value.value
    c.loop-at-test.true c.index-params-at.is c.loop-at.invariant c.in_ok-push.ensures.ok (c.in_ok-value.ensures ∙ c.value_text.ensures)

pub returns : goal.returns
returns c = texts_all c.args.place c.loop-at.at c.args.params.now c.loop-at.values c.loop-at-test.false c.loop-at.invariant
