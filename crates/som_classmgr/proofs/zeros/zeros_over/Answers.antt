use Rattle.std.proofs.Common.{arith, take}
use Rattle.som_class_variables.specs.Variables.{variables_over}
use Rattle.som_classmgr.proofs.NewCells.{all_over, none_over, one_over}
use Rattle.som_classmgr.proofs.zeros.zeros_over.Goals as goal

pub loop-class-init : goal.loop-class-init
loop-class-init c = none_over c.args.classes.now c.args.all.now c.in_ok-cells.cells c.in_ok-cells.ensures

pub loop-class-preserved : goal.loop-class-preserved
loop-class-preserved c = one_over c.args.classes.now c.args.all.now c.loop-class.class-index c.class-item.result c.add_own.new.cells c.loop-class-test.true c.class-item.is
    (c.in_ok-add_own.ensures (variables_over c.args.classes.now (take c.loop-class.class-index c.args.all.now)) c.loop-class.invariant)

pub returns : goal.returns
returns c = all_over c.args.classes.now c.args.all.now c.loop-class.class-index c.loop-class.cells (omega (arith, c.loop-class-test.false)) c.loop-class.invariant
