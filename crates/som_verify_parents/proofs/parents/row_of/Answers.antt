use Rattle.som_verify_classes.specs.Modules.{classes_of}
use Rattle.som_verify_classes.specs.Places.{with_kernel}
use Rattle.som_verify_classes.proofs.Rows.{row_next, row_stops, row_ends}
use Rattle.som_verify_parents.proofs.parents.row_of.Goals as goal

pub returns-in-None : goal.returns-in-None
returns-in-None c = row_stops (with_kernel (classes_of c.args.classes.now)) c.args.place c.args.parents.now c.loop-parent.parent-index c.loop-parent.row c.parent-item.result c.loop-parent-test.true c.parent-item.is
    c.in-None.ensures c.loop-parent.invariant

pub loop-parent-preserved : goal.loop-parent-preserved
loop-parent-preserved c = rw c.in_ok-push-in-Some.ensures.ok
    (row_next (with_kernel (classes_of c.args.classes.now)) c.args.place c.args.parents.now c.loop-parent.parent-index c.loop-parent.row c.parent-item.result c.in-Some.found c.loop-parent-test.true c.parent-item.is
    c.in-Some.ensures c.loop-parent.invariant)

pub returns : goal.returns
returns c = row_ends (with_kernel (classes_of c.args.classes.now)) c.args.place c.args.parents.now c.loop-parent.parent-index c.loop-parent.row c.loop-parent-test.false c.loop-parent.invariant
