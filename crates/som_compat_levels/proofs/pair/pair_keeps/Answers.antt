use Rattle.std.proofs.Common.{◌∙◌, ◌++◌, ◌≤◌, Some, length, slice_index_or, ap, sym, subst, arith}
use Rattle.std.proofs.lemmas.Result.{err_from_is_err_and}
use Rattle.som_model.specs.declared.class.ClassFace.{ClassFace}
use Rattle.som_model.specs.declared.limits.TheConstants.{MAX_ENTRIES}
use Rattle.som_model.specs.Lists.{first}
use Rattle.som_model.specs.Compatible.{k2, k3, k4, k6}
use Rattle.som_level_laws.specs.Levels.{level_k5}
use Rattle.som_verify_classes.specs.Places.{class_of_place, face_at}
use Rattle.som_verify_classes.proofs.Finding.{mem_place}
use Rattle.som_compat.specs.Told.{told}
use Rattle.som_compat.specs.Views.{shown}
use Rattle.som_compat.proofs.Ending.{passes, stops}
use Rattle.som_compat_levels.specs.Tables.{classes_in}
use Rattle.som_compat_levels.proofs.Pairing.{always_ok, begins, next_begun}
use Rattle.som_compat_levels.proofs.pair.pair_keeps.Goals as goal

pub keeps_order-requires-clause-old : goal.keeps_order-requires-clause-old
keeps_order-requires-clause-old c =
    let O = classes_in c.args.old.now in
    let N = classes_in c.args.new.now in
    let place = c.args.place in
    let r = slice_index_or c.args.pairs.now place 0 in
    let k = class_of_place O place in
    let n = class_of_place N r in
    let old_is = c.face_at-class.ensures in
    let new_is = c.face_at-face.ensures ∙ ap (face_at N) c.number_at-other.ensures in
    let f = c.face_at-class.result.now in
    let g = c.face_at-face.result.now in
    subst (λ (z : ClassFace). length z.entries ≤ MAX_ENTRIES) (sym old_is) (c.requires.old.stand.counted k (mem_place O place c.requires.place))

pub keeps_order-requires-clause-new : goal.keeps_order-requires-clause-new
keeps_order-requires-clause-new c =
    let O = classes_in c.args.old.now in
    let N = classes_in c.args.new.now in
    let place = c.args.place in
    let r = slice_index_or c.args.pairs.now place 0 in
    let k = class_of_place O place in
    let n = class_of_place N r in
    let old_is = c.face_at-class.ensures in
    let new_is = c.face_at-face.ensures ∙ ap (face_at N) c.number_at-other.ensures in
    let f = c.face_at-class.result.now in
    let g = c.face_at-face.result.now in
    subst (λ (z : ClassFace). length z.entries ≤ MAX_ENTRIES) (sym new_is) (c.requires.new.stand.counted n (mem_place N r (c.requires.pairs.by place (omega arith)).within))

pub returns-in_err-keeps_order-clause-tells : goal.returns-in_err-keeps_order-clause-tells
returns-in_err-keeps_order-clause-tells c =
    let O = classes_in c.args.old.now in
    let N = classes_in c.args.new.now in
    let place = c.args.place in
    let r = slice_index_or c.args.pairs.now place 0 in
    let k = class_of_place O place in
    let n = class_of_place N r in
    let old_is = c.face_at-class.ensures in
    let new_is = c.face_at-face.ensures ∙ ap (face_at N) c.number_at-other.ensures in
    let f = c.face_at-class.result.now in
    let g = c.face_at-face.result.now in
    let A = k2 k n in
    let B = k3 O N k in
    let C = k4 k n in
    let D = level_k5 O N k in
    let E = k6 N k in
    let two = c.in_ok-keeps_version.ensures ∙ ap (λ (z : ClassFace). first (k2 (shown z) (shown g))) old_is ∙ ap (λ (z : ClassFace). first (k2 (shown (face_at O place)) (shown z))) new_is in
    let three = c.in_ok-keeps_ancestors.ensures in
    let four_is = ap (λ (z : ClassFace). first (k4 (shown z) (shown g))) old_is ∙ ap (λ (z : ClassFace). first (k4 (shown (face_at O place)) (shown z))) new_is in
    let p = err_from_is_err_and c.from_residual-in_err-keeps_order.result c.from_residual-in_err-keeps_order.ensures.1 in
    let b = told c.in_err-keeps_order.field-0.0 in
    rw (p.1, p.2) (passes A (B ++ (C ++ (D ++ E))) (Some b) two (passes B (C ++ (D ++ E)) (Some b) three (stops C (D ++ E) b (c.in_err-keeps_order.ensures ∙ four_is))))

pub keeps_methods-requires-clause-few : goal.keeps_methods-requires-clause-few
keeps_methods-requires-clause-few c =
    let O = classes_in c.args.old.now in
    c.requires.old.stand.counted (class_of_place O c.args.place) (mem_place O c.args.place c.requires.place)

pub keeps_methods-requires-clause-orders : goal.keeps_methods-requires-clause-orders
keeps_methods-requires-clause-orders c =
    let O = classes_in c.args.old.now in
    let N = classes_in c.args.new.now in
    let place = c.args.place in
    let r = slice_index_or c.args.pairs.now place 0 in
    let k = class_of_place O place in
    let n = class_of_place N r in
    let old_is = c.face_at-class.ensures in
    let new_is = c.face_at-face.ensures ∙ ap (face_at N) c.number_at-other.ensures in
    let f = c.face_at-class.result.now in
    let g = c.face_at-face.result.now in
    let A = k2 k n in
    let B = k3 O N k in
    let C = k4 k n in
    let D = level_k5 O N k in
    let E = k6 N k in
    let two = c.in_ok-keeps_version.ensures ∙ ap (λ (z : ClassFace). first (k2 (shown z) (shown g))) old_is ∙ ap (λ (z : ClassFace). first (k2 (shown (face_at O place)) (shown z))) new_is in
    let three = c.in_ok-keeps_ancestors.ensures in
    let four_is = ap (λ (z : ClassFace). first (k4 (shown z) (shown g))) old_is ∙ ap (λ (z : ClassFace). first (k4 (shown (face_at O place)) (shown z))) new_is in
    next_begun O N place c.args.pairs.now (begins O N k n (c.in_ok-keeps_order.ensures ∙ four_is)) c.requires.orders

pub returns-in_err-keeps_methods-clause-tells : goal.returns-in_err-keeps_methods-clause-tells
returns-in_err-keeps_methods-clause-tells c =
    let O = classes_in c.args.old.now in
    let N = classes_in c.args.new.now in
    let place = c.args.place in
    let r = slice_index_or c.args.pairs.now place 0 in
    let k = class_of_place O place in
    let n = class_of_place N r in
    let old_is = c.face_at-class.ensures in
    let new_is = c.face_at-face.ensures ∙ ap (face_at N) c.number_at-other.ensures in
    let f = c.face_at-class.result.now in
    let g = c.face_at-face.result.now in
    let A = k2 k n in
    let B = k3 O N k in
    let C = k4 k n in
    let D = level_k5 O N k in
    let E = k6 N k in
    let two = c.in_ok-keeps_version.ensures ∙ ap (λ (z : ClassFace). first (k2 (shown z) (shown g))) old_is ∙ ap (λ (z : ClassFace). first (k2 (shown (face_at O place)) (shown z))) new_is in
    let three = c.in_ok-keeps_ancestors.ensures in
    let four_is = ap (λ (z : ClassFace). first (k4 (shown z) (shown g))) old_is ∙ ap (λ (z : ClassFace). first (k4 (shown (face_at O place)) (shown z))) new_is in
    let p = err_from_is_err_and c.from_residual-in_err-keeps_methods.result c.from_residual-in_err-keeps_methods.ensures.1 in
    let b = told c.in_err-keeps_methods.field-0.0 in
    rw (p.1, p.2) (passes A (B ++ (C ++ (D ++ E))) (Some b) two (passes B (C ++ (D ++ E)) (Some b) three (passes C (D ++ E) (Some b) (c.in_ok-keeps_order.ensures ∙ four_is) (stops D E b c.in_err-keeps_methods.ensures))))

pub returns-clause-tells : goal.returns-clause-tells
returns-clause-tells c =
    let O = classes_in c.args.old.now in
    let N = classes_in c.args.new.now in
    let place = c.args.place in
    let r = slice_index_or c.args.pairs.now place 0 in
    let k = class_of_place O place in
    let n = class_of_place N r in
    let old_is = c.face_at-class.ensures in
    let new_is = c.face_at-face.ensures ∙ ap (face_at N) c.number_at-other.ensures in
    let f = c.face_at-class.result.now in
    let g = c.face_at-face.result.now in
    let A = k2 k n in
    let B = k3 O N k in
    let C = k4 k n in
    let D = level_k5 O N k in
    let E = k6 N k in
    let two = c.in_ok-keeps_version.ensures ∙ ap (λ (z : ClassFace). first (k2 (shown z) (shown g))) old_is ∙ ap (λ (z : ClassFace). first (k2 (shown (face_at O place)) (shown z))) new_is in
    let three = c.in_ok-keeps_ancestors.ensures in
    let four_is = ap (λ (z : ClassFace). first (k4 (shown z) (shown g))) old_is ∙ ap (λ (z : ClassFace). first (k4 (shown (face_at O place)) (shown z))) new_is in
    passes A (B ++ (C ++ (D ++ E))) _ two (passes B (C ++ (D ++ E)) _ three (passes C (D ++ E) _ (c.in_ok-keeps_order.ensures ∙ four_is) (passes D E _ c.in_ok-keeps_methods.ensures c.keeps_metaclass.ensures.tells)))

pub returns-clause-orders : goal.returns-clause-orders
returns-clause-orders c =
    let O = classes_in c.args.old.now in
    let N = classes_in c.args.new.now in
    let place = c.args.place in
    let r = slice_index_or c.args.pairs.now place 0 in
    let k = class_of_place O place in
    let n = class_of_place N r in
    let old_is = c.face_at-class.ensures in
    let new_is = c.face_at-face.ensures ∙ ap (face_at N) c.number_at-other.ensures in
    let f = c.face_at-class.result.now in
    let g = c.face_at-face.result.now in
    let A = k2 k n in
    let B = k3 O N k in
    let C = k4 k n in
    let D = level_k5 O N k in
    let E = k6 N k in
    let two = c.in_ok-keeps_version.ensures ∙ ap (λ (z : ClassFace). first (k2 (shown z) (shown g))) old_is ∙ ap (λ (z : ClassFace). first (k2 (shown (face_at O place)) (shown z))) new_is in
    let three = c.in_ok-keeps_ancestors.ensures in
    let four_is = ap (λ (z : ClassFace). first (k4 (shown z) (shown g))) old_is ∙ ap (λ (z : ClassFace). first (k4 (shown (face_at O place)) (shown z))) new_is in
    always_ok c.keeps_metaclass.result (next_begun O N place c.args.pairs.now (begins O N k n (c.in_ok-keeps_order.ensures ∙ four_is)) c.requires.orders)
