-- Types and signatures are fields.
use Rattle.std.proofs.Common.{◌≡◌, ℕ, ◌+◌, ◌^◌, ◌<◌, ◌≤◌, Bool, true, false, eqb, List, [], ◌∷◌, length, Ok, refl, subst, arith, inl, inr}
use Rattle.std.specs.Prelude.{◌&&◌, IsTrue}
use Rattle.std.specs.Int.{w8, w16}
use Rattle.std.proofs.lemmas.Bool.{eqb-true}
use Rattle.som_model.specs.Bytes.{AreBytes}
use Rattle.som_model.specs.Steps.{◌>>=◌}
use Rattle.som_model.specs.declared.limits.TheConstants.{MAX_PARAMETERS}
use Rattle.som_image_fields.specs.declared.read.Read.{Read}
use Rattle.som_image_fields.specs.declared.kind.WireType.{WireType}
use Rattle.som_image_fields.specs.declared.kind.WireType.TheVariants as types
use Rattle.som_image_fields.specs.declared.sig.WireSig.{WireSig}
use Rattle.som_image_fields.specs.Fields.{Stands, done, counted_at}
use Rattle.som_image_fields.specs.Spelling.{number, counted, FitsCounted, kind, FitsKind, sig, FitsSig}
use Rattle.som_image_fields.specs.Reading.{number_at, below_at, tagged_at, kind_at, sig_at}
use Rattle.som_image_fields.proofs.Parts.{IsField, Stands-join, chosen, came, took, went}
use Rattle.som_image_fields.proofs.NumberFields.{byte_field, below_field}
use Rattle.som_image_fields.proofs.ManyFields.{counted_field}

-- a tag that has a value stands as that value
pub tagged : (bytes : List ℕ) (place : ℕ) (tag : Read ℕ) (k : ℕ) → Stands bytes place (number w8 tag.value) tag.next → eqb tag.value k ≡ true → Stands bytes place (number w8 k) tag.next
tagged bytes place tag k h e = subst (λ (n : ℕ). Stands bytes place (number w8 n) tag.next) (eqb-true _ _ e) h

-- ---- types

both_true : (a b : Bool) → (a && b) ≡ true → (a ≡ true) × IsTrue b
both_true true true e = (refl, refl)
both_true true false e = absurd cc
both_true false b e = absurd cc

module _ (classes : ℕ) (is_result : Bool) where
  of_class : classes < 2 ^ 16 → (bytes : List ℕ) → AreBytes bytes → (place : ℕ) (tag : Read ℕ) (r : Read WireType) → Stands bytes place (number w8 4) tag.next → (below_at classes bytes tag.next >>= λ class. done (types.Class class.value) class.next) ≡ Ok r → Stands bytes place (kind r.value) r.next × FitsKind classes is_result r.value
  of_class small bytes all place tag r stands e =
      let c = took (below_at classes) (number w16) (λ n. n < classes) (below_field classes (omega arith)) bytes all tag.next stands.within (λ class. done (types.Class class.value) class.next) r e in
      came kind (FitsKind classes is_result) bytes place (types.Class c.0.value) c.0.next r c.3 (Stands-join bytes place (4 ∷ []) tag.next (number w16 c.0.value) c.0.next stands c.1) c.2

  kind_takes : classes < 2 ^ 16 → (bytes : List ℕ) → AreBytes bytes → (place : ℕ) (r : Read WireType) → place ≤ length bytes → kind_at classes is_result bytes place ≡ Ok r → Stands bytes place (kind r.value) r.next × FitsKind classes is_result r.value
  unfolding kind_at
  kind_takes small bytes all place r le e =
      let b = took (number_at w8) (number w8) (λ n. n < 2 ^ 8) byte_field bytes all place le (tagged_at classes is_result bytes place) r e in
      let tag = b.0 in
      let plain = came kind (FitsKind classes is_result) bytes place in
      elim (chosen ((eqb tag.value 0) && is_result) _ _ _ b.3) [
        | inl w ↦ let p = both_true (eqb tag.value 0) is_result w.0 in plain types.Void tag.next r w.1 (tagged bytes place tag 0 b.1 p.0) p.1
        | inr u ↦ elim (chosen (eqb tag.value 1) _ _ _ u.1) [
          | inl w ↦ plain types.Long tag.next r w.1 (tagged bytes place tag 1 b.1 w.0) tt
          | inr u ↦ elim (chosen (eqb tag.value 2) _ _ _ u.1) [
            | inl w ↦ plain types.Boolean tag.next r w.1 (tagged bytes place tag 2 b.1 w.0) tt
            | inr u ↦ elim (chosen (eqb tag.value 3) _ _ _ u.1) [
              | inl w ↦ plain types.Str tag.next r w.1 (tagged bytes place tag 3 b.1 w.0) tt
              | inr u ↦ elim (chosen (eqb tag.value 4) _ _ _ u.1) [
                | inl w ↦ of_class small bytes all place tag r (tagged bytes place tag 4 b.1 w.0) w.1
                | inr u ↦ absurd (let z = u.1 in cc)
              ]
            ]
          ]
        ]
      ]

  kind_again : classes < 2 ^ 16 → (bytes : List ℕ) (place : ℕ) (v : WireType) (next : ℕ) → Stands bytes place (kind v) next → FitsKind classes is_result v → kind_at classes is_result bytes place ≡ done v next
  unfolding kind_at
  kind_again small bytes place types.Void next h fits = rw (byte_field.again bytes place 0 next h (omega arith), fits) refl
  kind_again small bytes place types.Long next h fits = rw (byte_field.again bytes place 1 next h (omega arith)) refl
  kind_again small bytes place types.Boolean next h fits = rw (byte_field.again bytes place 2 next h (omega arith)) refl
  kind_again small bytes place types.Str next h fits = rw (byte_field.again bytes place 3 next h (omega arith)) refl
  kind_again small bytes place (types.Class c) next h fits =
      let tag = went (number_at w8) (number w8) (λ n. n < 2 ^ 8) byte_field bytes place 4 (number w16 c) next h (omega arith) in
      rw (tag.0, (below_field classes (omega arith)).again bytes (place + 1) c next tag.1 fits) refl

  pub kind_field : classes < 2 ^ 16 → IsField (kind_at classes is_result) kind (FitsKind classes is_result)
  kind_field small = record { takes = kind_takes small; again = kind_again small }

-- ---- signatures

pub params_field : (classes : ℕ) → classes < 2 ^ 16 → IsField (λ bytes. counted_at (number_at w8 bytes) 0 MAX_PARAMETERS (kind_at classes false bytes)) (counted w8 kind) (FitsCounted 0 MAX_PARAMETERS (FitsKind classes false))
params_field classes small = counted_field w8 (2 ^ 8) byte_field (kind_at classes false) kind (FitsKind classes false) (kind_field classes false small) 0 MAX_PARAMETERS (omega arith)

sig_takes : (classes : ℕ) → classes < 2 ^ 16 → (bytes : List ℕ) → AreBytes bytes → (place : ℕ) (r : Read WireSig) → place ≤ length bytes → sig_at classes bytes place ≡ Ok r → Stands bytes place (sig r.value) r.next × FitsSig classes r.value
unfolding sig_at
sig_takes classes small bytes all place r le e =
    let a = took (kind_at classes true) kind (FitsKind classes true) (kind_field classes true small) bytes all place le (λ answer. counted_at (number_at w8 bytes) 0 MAX_PARAMETERS (kind_at classes false bytes) answer.next >>= λ params. done (record { result = answer.value; params = params.value }) params.next) r e in
    let b = took (λ (bytes : List ℕ). counted_at (number_at w8 bytes) 0 MAX_PARAMETERS (kind_at classes false bytes)) (counted w8 kind) (FitsCounted 0 MAX_PARAMETERS (FitsKind classes false)) (params_field classes small) bytes all a.0.next a.1.within (λ params. done (record { result = a.0.value; params = params.value }) params.next) r a.3 in
    came sig (FitsSig classes) bytes place (record { result = a.0.value; params = b.0.value }) b.0.next r b.3 (Stands-join bytes place (kind a.0.value) a.0.next (counted w8 kind b.0.value) b.0.next a.1 b.1) (record { result = a.2; params = b.2 })

sig_again : (classes : ℕ) → classes < 2 ^ 16 → (bytes : List ℕ) (place : ℕ) (v : WireSig) (next : ℕ) → Stands bytes place (sig v) next → FitsSig classes v → sig_at classes bytes place ≡ done v next
unfolding sig_at
sig_again classes small bytes place v next h fits =
    let a = went (kind_at classes true) kind (FitsKind classes true) (kind_field classes true small) bytes place v.result (counted w8 kind v.params) next h fits.result in
    let b = (params_field classes small).again bytes (place + length (kind v.result)) v.params next a.1 fits.params in
    rw (a.0, b) refl

pub sig_field : (classes : ℕ) → classes < 2 ^ 16 → IsField (sig_at classes) sig (FitsSig classes)
sig_field classes small = record { takes = sig_takes classes small; again = sig_again classes small }
