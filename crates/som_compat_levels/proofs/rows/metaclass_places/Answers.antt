use Rattle.std.proofs.Common.{◌≡◌, ◌∙◌, length, sym, ap, subst, arith}
use Rattle.som_model.specs.declared.class.ClassFace.{ClassFace}
use Rattle.som_compat_levels.specs.Standing.{classes_of}
use Rattle.som_compat_levels.specs.Tables.{IsPlaceOf}
use Rattle.som_compat_levels.proofs.Keyed.{face_here, long_classes}
use Rattle.som_compat_levels.proofs.Known.{known}
use Rattle.som_compat_levels.proofs.Listing.{metaclass_among, next_metaclass}
use Rattle.som_compat_levels.proofs.rows.metaclass_places.Goals as goal

pub metaclass_place-requires : goal.metaclass_place-requires
metaclass_place-requires c = λ k e.
    let ps = c.args.classes.now in
    let i = c.loop-class.class-index in
    let long = long_classes ps in
    metaclass_among (classes_of ps) (known (classes_of ps) c.requires) i k (omega (arith, long, c.loop-class-test.true))
    (ap (λ (z : ClassFace). z.metaclass) (face_here ps i c.class-item.result c.loop-class-test.true c.class-item.is) ∙ e)

pub loop-class-preserved : goal.loop-class-preserved
loop-class-preserved c =
    let ps = c.args.classes.now in
    let i = c.loop-class.class-index in
    rw c.in_ok-push.ensures.items (
    next_metaclass (classes_of ps) i c.loop-class.places.items c.metaclass_place.result
    (subst (λ (z : ClassFace). IsPlaceOf (classes_of ps) z.metaclass c.metaclass_place.result) (sym (face_here ps i c.class-item.result c.loop-class-test.true c.class-item.is)) c.metaclass_place.ensures)
    c.loop-class.invariant)

pub returns : goal.returns
returns c =
    let ps = c.args.classes.now in
    let long = long_classes ps in
    let at = c.loop-class.invariant in
    let same : c.loop-class.class-index ≡ length (classes_of ps) = omega (arith, long, c.loop-class-test.false, c.loop-class.auto.class-index-end) in
    record { long = at.long ∙ same; by = λ p lt. at.by p (omega (arith, same, lt)) }
