-- What was written is read at its place.
use Rattle.std.proofs.Common.{◌≡◌, ℕ, List, ◌++◌, length, drop, Result, refl, sym, ap, ◌∙◌, append_assoc, arith}
use Rattle.std.proofs.lemmas.List.{drop_at, length-append}
use Rattle.som_image_fields.specs.declared.fault.ImageFault.{ImageFault}
use Rattle.som_image_fields.specs.declared.read.Read.{Read}
use Rattle.som_image_fields.specs.Fields.{Stands, done}
use Rattle.som_image_fields.proofs.Parts.{IsField}

-- a text stands where it was put
stands_between : (before text after : List ℕ) → Stands (before ++ text ++ after) (length before) text (length (before ++ text))
stands_between before text after = record {
  parts = ap (drop (length before)) (append_assoc before text after) ∙ drop_at before (text ++ after) (length before) refl ∙ ap (λ (t : List ℕ). text ++ t) (sym (drop_at (before ++ text) after (length (before ++ text)) refl));
  moves = sym (length-append before text);
  within = omega (arith, length-append (before ++ text) after);
}

pub read_back : {A : Type 0} (one : List ℕ → ℕ → Result (Read A) ImageFault) (spell : A → List ℕ) (Fits : A → Type 0) → IsField one spell Fits → (v : A) (before after : List ℕ) → Fits v → one (before ++ spell v ++ after) (length before) ≡ done v (length (before ++ spell v))
read_back one spell Fits field v before after fits = field.again (before ++ spell v ++ after) (length before) v (length (before ++ spell v)) (stands_between before (spell v) after) fits
