use Rattle.som_sema_local.proofs.Doubling.{double_here, double_later, double_none}
use Rattle.som_sema_local.proofs.double.first_double.Goals as goal

pub loop-name-preserved : goal.loop-name-preserved
loop-name-preserved c =
    double_later c.args.names.now c.loop-name.name-index _ _ _ _ _ c.loop-name-test.true c.in_ok-note_name.ensures.is_new c.in_ok-note_name.ensures.keys c.if-not-branch.false c.loop-name.invariant

pub returns-then-not-branch : goal.returns-then-not-branch
returns-then-not-branch c = double_here c.args.names.now c.loop-name.name-index _ _ _ _ c.loop-name-test.true c.in_ok-note_name.ensures.is_new c.if-not-branch.true c.loop-name.invariant

pub returns : goal.returns
returns c = double_none c.args.names.now c.loop-name.name-index _ _ c.loop-name-test.false c.loop-name.invariant
