use Rattle.std.proofs.Common.{◌≡◌, refl, ◌∙◌, sym}
use Rattle.som_meta.specs.Planning.{is_above_some}
use Rattle.som_meta.proofs.Once.{left_in, left_out}
use Rattle.som_meta.proofs.lowest.lowest.Goals.{then-not-is_above+in_ok-push, else-not-is_above}
use Rattle.som_meta.proofs.lowest.lowest.Goals as goal

pub loop-class-preserved : goal.loop-class-preserved
loop-class-preserved g c =
    let xs = c.args.classes.now in
    let i = c.loop-class.class-index in
    let x = c.class-item.result in
    let test = is_above_some (g.H.Ancestry.known c.args.known.now) xs in
    elim c.if-not-is_above.branch [
      | then-not-is_above+in_ok-push w ↦ rw (w.lowest-is, w.in_ok-push.ensures.ok, left_in xs i x c.loop-class-test.true c.class-item.is test (sym c.is_above.ensures ∙ w.if-not-is_above.true), c.loop-class.invariant) refl
      | else-not-is_above w ↦ rw (w.lowest-is, left_out xs i x c.loop-class-test.true c.class-item.is test (sym c.is_above.ensures ∙ w.if-not-is_above.false)) c.loop-class.invariant
    ]
