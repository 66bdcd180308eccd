-- No spelling of a field begins another.
use Rattle.std.proofs.Common.{◌≡◌, ℕ, ◌^◌, ◌<◌, List, ◌++◌, length, drop, Result, refl, sym, ap, ◌∙◌, append_assoc, arith}
use Rattle.std.specs.Int.{w16}
use Rattle.std.proofs.lemmas.List.{drop_at, length-append}
use Rattle.som_image_fields.specs.declared.fault.ImageFault.{ImageFault}
use Rattle.som_image_fields.specs.declared.read.Read.{Read}
use Rattle.som_image_fields.specs.declared.method.WireMethod.{WireMethod}
use Rattle.som_image_fields.specs.Fields.{Stands, done, NoneBeginsAnother}
use Rattle.som_image_fields.specs.Spelling.{number, method, FitsSomeRanges}
use Rattle.som_image_fields.specs.Reading.{number_at}
use Rattle.som_image_fields.proofs.Parts.{IsField, same_read}
use Rattle.som_image_fields.proofs.NumberFields.{short_field}

-- a text stands at the beginning of what it begins
begins : (t x bytes : List ℕ) → bytes ≡ t ++ x → Stands bytes 0 t (length t)
begins t x bytes is = record {
  parts = is ∙ ap (λ (y : List ℕ). t ++ y) (sym (ap (drop (length t)) is ∙ drop_at t x (length t) refl));
  moves = omega arith;
  within = omega (arith, ap length is, length-append t x);
}

-- what is read at the beginning is the one value or the other, and what follows starts after it
pub apart : {A : Type 0} (one : List ℕ → ℕ → Result (Read A) ImageFault) (spell : A → List ℕ) (Fits : A → Type 0) → IsField one spell Fits → NoneBeginsAnother spell Fits
apart {A} one spell Fits field v w x y fits_v fits_w e =
    let bytes : List ℕ = spell v ++ x in
    let a : one bytes 0 ≡ done v (length (spell v)) = field.again bytes 0 v (length (spell v)) (begins (spell v) x bytes refl) fits_v in
    let b : one bytes 0 ≡ done w (length (spell w)) = field.again bytes 0 w (length (spell w)) (begins (spell w) y bytes e) fits_w in
    let same : v ≡ w = ap (λ (r : Read A). r.value) (same_read (record { value = v; next = length (spell v) }) (record { value = w; next = length (spell w) }) (sym a ∙ b)) in
    let after : x ≡ y = sym (drop_at (spell v) x (length (spell v)) refl) ∙ ap (drop (length (spell v))) e ∙ drop_at (spell w) y (length (spell v)) (ap (λ (u : A). length (spell u)) (sym same)) in
    (same, after)

abbrev the_method : ℕ → ℕ → WireMethod
the_method class slot = record { class = class; slot = slot }

pub method_apart : NoneBeginsAnother method FitsSomeRanges
method_apart v w x y fits_v fits_w e =
    let number_apart = apart (number_at w16) (number w16) (λ n. n < 2 ^ 16) short_field in
    let parts : number w16 v.class ++ (number w16 v.slot ++ x) ≡ number w16 w.class ++ (number w16 w.slot ++ y) = sym (append_assoc (number w16 v.class) (number w16 v.slot) x) ∙ e ∙ append_assoc (number w16 w.class) (number w16 w.slot) y in
    let a = number_apart v.class w.class (number w16 v.slot ++ x) (number w16 w.slot ++ y) (omega (arith, fits_v.class)) (omega (arith, fits_w.class)) parts in
    let b = number_apart v.slot w.slot x y (omega (arith, fits_v.slot)) (omega (arith, fits_w.slot)) a.1 in
    let same : v ≡ w = ap (λ (class : ℕ). the_method class v.slot) a.0 ∙ ap (λ (slot : ℕ). the_method w.class slot) b.0 in
    (same, b.1)
