use Rattle.std.proofs.Common.{◌≡◌, ◌∙◌, ℕ, length, sym, ap, subst, arith}
use Rattle.som_model.specs.declared.class.ClassFace.{ClassFace}
use Rattle.som_model.specs.Lists.{Mem}
use Rattle.som_verify_classes.specs.Places.{IsRows}
use Rattle.som_compat_levels.specs.Standing.{classes_of}
use Rattle.som_compat_levels.proofs.Keyed.{face_here, long_classes}
use Rattle.som_compat_levels.proofs.Known.{known}
use Rattle.som_compat_levels.proofs.Listing.{next_row, parent_among}
use Rattle.som_compat_levels.proofs.rows.parent_rows.Goals as goal

pub row_of-requires : goal.row_of-requires
row_of-requires c = λ k m.
    let ps = c.args.classes.now in
    let i = c.loop-class.class-index in
    let long = long_classes ps in
    parent_among (classes_of ps) (known (classes_of ps) c.requires) i k (omega (arith, long, c.loop-class-test.true))
    (subst (λ z. Mem k z) (c.as_slice-parents.ensures ∙ ap (λ (z : ClassFace). z.parents) (sym (face_here ps i c.class-item.result c.loop-class-test.true c.class-item.is))) m)

pub loop-class-preserved : goal.loop-class-preserved
loop-class-preserved c =
    let ps = c.args.classes.now in
    let i = c.loop-class.class-index in
    let long = long_classes ps in
    rw c.in_ok-push.ensures.items (
    next_row (classes_of ps) (known (classes_of ps) c.requires) i c.loop-class.rows.items _ (omega (arith, long, c.loop-class-test.true))
    (c.in_ok-row_of.ensures.keys ∙ c.as_slice-parents.ensures ∙ ap (λ (z : ClassFace). z.parents) (sym (face_here ps i c.class-item.result c.loop-class-test.true c.class-item.is)))
    c.in_ok-row_of.ensures.within c.loop-class.invariant)

pub returns : goal.returns
returns c =
    let ps = c.args.classes.now in
    let long = long_classes ps in
    let same : c.loop-class.class-index ≡ length (classes_of ps) = omega (arith, long, c.loop-class-test.false, c.loop-class.auto.class-index-end) in
    subst (λ (n : ℕ). IsRows (classes_of ps) n c.loop-class.rows.items) same c.loop-class.invariant
