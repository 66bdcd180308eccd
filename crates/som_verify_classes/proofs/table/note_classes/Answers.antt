use Rattle.std.proofs.Common.{refl}
use Rattle.som_model.specs.Kernel.{kernel}
use Rattle.som_order.specs.Names.{texts}
use Rattle.som_verify_classes.proofs.ClassTable.{names_end, names_next, names_stop, names_told}
use Rattle.som_verify_classes.proofs.table.note_classes.Goals as goal

pub loop-class-init : goal.loop-class-init
loop-class-init c = record { are = c.requires; same = refl }

pub returns-then-not-branch-clause-tells : goal.returns-then-not-branch-clause-tells
returns-then-not-branch-clause-tells c = c.refusal.ensures _
    (names_stop kernel c.args.classes.now c.loop-class.class-index (texts c.loop-class.seen.keys) c.class-item.result c.in_ok-note_name.field-0 c.loop-class-test.true c.class-item.is
    c.if-not-branch.true (rw c.as_slice.ensures at c.in_ok-note_name.ensures.is_new) c.loop-class.invariant)

pub loop-class-preserved : goal.loop-class-preserved
loop-class-preserved c =
    names_next kernel c.args.classes.now c.loop-class.class-index (texts c.loop-class.seen.keys) (texts c.note_name.new.seen.keys) c.class-item.result c.in_ok-note_name.field-0 c.loop-class-test.true c.class-item.is
    c.if-not-branch.false (rw c.as_slice.ensures at c.in_ok-note_name.ensures.is_new) (rw c.as_slice.ensures at c.in_ok-note_name.ensures.keys) c.loop-class.invariant

pub returns-clause-tells : goal.returns-clause-tells
returns-clause-tells c = names_told c.args.classes.now c.loop-class.class-index (texts c.loop-class.seen.keys) c.loop-class-test.false c.loop-class.invariant

pub returns-clause-table : goal.returns-clause-table
returns-clause-table c = names_end c.args.classes.now c.loop-class.class-index (texts c.loop-class.seen.keys) c.loop-class-test.false c.loop-class.invariant
