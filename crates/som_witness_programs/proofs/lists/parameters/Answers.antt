use Rattle.std.proofs.Common.{◌++◌, ◌∷◌, ◌∙◌}
use Rattle.som_witness_programs.proofs.Joined.{names_on}
use Rattle.som_witness_programs.proofs.lists.parameters.Goals as goal

pub loop-number-preserved : goal.loop-number-preserved
loop-number-preserved c =
    names_on c.loop-number.number c.args.params.now c.loop-number.names c.push.new.self c.in_ok-parameter.field-0
    c.loop-number-test.true c.loop-number.invariant c.in_ok-push.ensures.ok c.in_ok-parameter.ensures
