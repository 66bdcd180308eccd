-- The faces and the keys of classes by their places.
use Rattle.std.proofs.Common.{◌≡◌, ℕ, suc, ◌-◌, ◌<◌, ◌≤◌, slice_index_or, List, length, sym, ap, ◌∙◌, arith}
use Rattle.som_model.specs.Class.{Class}
use Rattle.som_model.specs.declared.key.ClassKey.TheVariants as keys
use Rattle.som_verify_classes.specs.Modules.{class_of, classes_of}
use Rattle.som_verify_classes.specs.Places.{class_of_place, face_at, key_at, module_at, with_kernel}
use Rattle.som_verify_classes.specs.declared.types.Declared.{Declared}
use Rattle.som_verify_classes.proofs.DeclaredClasses.{are_declared, item_of, long_map}
use Rattle.som_verify_classes.proofs.Finding.{kernel_declared, mem_place}
use Rattle.som_verify_classes.proofs.Rows.{face_there}

-- the face of a declared class
pub face_there_in : (ds : List Declared) (p : ℕ) (d : Declared) → 4 ≤ p → p < length (with_kernel (classes_of ds)) → (slice_index_or ds (p - 4) d).decl.now.face ≡ face_at (with_kernel (classes_of ds)) p
face_there_in ds p d le lt =
    let cs = classes_of ds in
    let e : p ≡ suc (suc (suc (suc (p - 4)))) = omega (arith, le) in
    let own : p - 4 < length ds = omega (arith, le, lt, long_map class_of ds) in
    let within : p - 4 < length cs = omega (arith, le, lt) in
    ap (λ (c : Class). c.decl.face) (item_of ds (p - 4) d own)
    ∙ sym (face_there cs (p - 4) (class_of d) within)
    ∙ ap (λ z. face_at (with_kernel cs) z) (sym e)

-- the key of a class by its module and its name
pub key_there : (ds : List Declared) (p : ℕ) → p < length (with_kernel (classes_of ds))
    → key_at (with_kernel (classes_of ds)) p ≡ keys.Named (module_at (with_kernel (classes_of ds)) p) (face_at (with_kernel (classes_of ds)) p).name
key_there ds p lt = (kernel_declared (classes_of ds) (are_declared ds)).by (class_of_place (with_kernel (classes_of ds)) p) (mem_place (with_kernel (classes_of ds)) p lt)
