use Rattle.std.proofs.Common.{◌≡◌, nat_eq, take, refl, ◌∙◌, sym}
use Rattle.som_meta.proofs.Once.{once_new, once_again}
use Rattle.som_meta.proofs.constraints.each_once.Goals.{then-not-is_among+in_ok-push, else-not-is_among}
use Rattle.som_meta.proofs.constraints.each_once.Goals as goal

pub loop-place-preserved : goal.loop-place-preserved
loop-place-preserved c =
    let xs = c.args.classes.now in
    let i = c.loop-place.place in
    let x = c.index-classes-place.result in
    elim c.if-not-is_among.branch [
      | then-not-is_among+in_ok-push w ↦ rw (w.once-is, w.in_ok-push.ensures.ok, once_new xs i x c.loop-place-test.true c.index-classes-place.is (sym c.is_among.ensures ∙ w.if-not-is_among.true), c.loop-place.invariant) refl
      | else-not-is_among w ↦ rw (w.once-is, once_again xs i x c.loop-place-test.true c.index-classes-place.is (sym c.is_among.ensures ∙ w.if-not-is_among.false)) c.loop-place.invariant
    ]
