use Rattle.std.proofs.Common.{Err, sym, subst}
use Rattle.som_order.specs.Names.{texts}
use Rattle.som_flat.specs.Told.{TellsFlat}
use Rattle.som_flat.proofs.Naming.{named_before, next_named}
use Rattle.som_flat.proofs.names.note_classes.Goals as goal

pub returns-then-not-branch : goal.returns-then-not-branch
returns-then-not-branch c =
    subst (λ z. TellsFlat z (Err c.named_twice.result))
    (sym (named_before c.args.classes.now c.loop-class.class-index c.class-item.result c.loop-class-test.true c.class-item.is (texts c.loop-class.seen.keys) c.in_ok-note_name.field-0
    c.if-not-branch.true (rw c.as_slice.ensures at c.in_ok-note_name.ensures.is_new) c.loop-class.invariant))
    c.named_twice.ensures

pub loop-class-preserved : goal.loop-class-preserved
loop-class-preserved c =
    next_named c.args.classes.now c.loop-class.class-index c.class-item.result c.loop-class-test.true c.class-item.is (texts c.loop-class.seen.keys) (texts c.note_name.new.seen.keys) c.in_ok-note_name.field-0
    c.if-not-branch.false (rw c.as_slice.ensures at c.in_ok-note_name.ensures.is_new) (rw c.as_slice.ensures at c.in_ok-note_name.ensures.keys) c.loop-class.invariant
