-- Entries and methods are fields.
use Rattle.std.proofs.Common.{◌≡◌, ℕ, ◌+◌, ◌^◌, ◌<◌, ◌≤◌, eqb, List, [], ◌∷◌, ◌++◌, length, Ok, refl, subst, append_assoc, arith, inl, inr}
use Rattle.std.specs.Prelude.{slice_index}
use Rattle.std.specs.Int.{w8, w16}
use Rattle.som_model.specs.declared.class.Way.{Way}
use Rattle.som_model.specs.declared.class.Way.TheVariants as ways
use Rattle.som_model.specs.Bytes.{AreBytes}
use Rattle.som_model.specs.Steps.{◌>>=◌}
use Rattle.som_image_fields.specs.declared.read.Read.{Read}
use Rattle.som_image_fields.specs.declared.entry.WireEntry.{WireEntry}
use Rattle.som_image_fields.specs.declared.entry.WireEntry.TheVariants as entries
use Rattle.som_image_fields.specs.declared.method.WireMethod.{WireMethod}
use Rattle.som_image_fields.specs.declared.method.Ranges.{Ranges}
use Rattle.som_image_fields.specs.Fields.{Stands, done}
use Rattle.som_image_fields.specs.Spelling.{number, text, FitsText, sig, FitsSig, way, entry, FitsEntry, method, FitsMethod, AreShort}
use Rattle.som_image_fields.specs.Reading.{number_at, text_at, below_at, sig_at, flagged_at, entry_at, method_at}
use Rattle.som_image_fields.proofs.Parts.{IsField, Stands-join, chosen, came, took, went}
use Rattle.som_image_fields.proofs.NumberFields.{byte_field, below_field, text_field}
use Rattle.som_image_fields.proofs.TypeFields.{tagged, sig_field}

-- ---- entries

module _ (classes : ℕ) (small : classes < 2 ^ 16) where
  -- after the name and a flag of an introduced entry
  of_introduced : (bytes : List ℕ) → AreBytes bytes → (place : ℕ) (name : Read (List ℕ)) (flag : Read ℕ) (w : Way) (r : Read WireEntry) → Stands bytes place (text name.value) name.next → FitsText name.value → Stands bytes name.next (way w) flag.next → (sig_at classes bytes flag.next >>= λ s. done (entries.Introduced name.value s.value w) s.next) ≡ Ok r → Stands bytes place (entry r.value) r.next × FitsEntry classes r.value
  of_introduced bytes all place name flag w r named fits flagged e =
      let s = took (sig_at classes) sig (FitsSig classes) (sig_field classes small) bytes all flag.next flagged.within (λ s. done (entries.Introduced name.value s.value w) s.next) r e in
      let front = Stands-join bytes place (text name.value) name.next (way w) flag.next named flagged in
      came entry (FitsEntry classes) bytes place (entries.Introduced name.value s.0.value w) s.0.next r s.3 (Stands-join bytes place (text name.value ++ way w) flag.next (sig s.0.value) s.0.next front s.1) (fits, s.2)

  -- after the name and the flag of an entry that was moved
  of_moved : (bytes : List ℕ) → AreBytes bytes → (place : ℕ) (name : Read (List ℕ)) (flag : Read ℕ) (r : Read WireEntry) → Stands bytes place (text name.value) name.next → FitsText name.value → Stands bytes name.next (number w8 2) flag.next → (below_at classes bytes flag.next >>= λ to. done (entries.Moved name.value to.value) to.next) ≡ Ok r → Stands bytes place (entry r.value) r.next × FitsEntry classes r.value
  of_moved bytes all place name flag r named fits flagged e =
      let to = took (below_at classes) (number w16) (λ n. n < classes) (below_field classes (omega arith)) bytes all flag.next flagged.within (λ to. done (entries.Moved name.value to.value) to.next) r e in
      let rest = Stands-join bytes name.next (2 ∷ []) flag.next (number w16 to.0.value) to.0.next flagged to.1 in
      came entry (FitsEntry classes) bytes place (entries.Moved name.value to.0.value) to.0.next r to.3 (Stands-join bytes place (text name.value) name.next (2 ∷ number w16 to.0.value) to.0.next named rest) (fits, to.2)

  -- after the name and the flag
  flagged_takes : (bytes : List ℕ) → AreBytes bytes → (place : ℕ) (name : Read (List ℕ)) (flag : Read ℕ) (r : Read WireEntry) → Stands bytes place (text name.value) name.next → FitsText name.value → Stands bytes name.next (number w8 flag.value) flag.next → flagged_at classes bytes name flag ≡ Ok r → Stands bytes place (entry r.value) r.next × FitsEntry classes r.value
  flagged_takes bytes all place name flag r named fits flagged e =
      elim (chosen (eqb flag.value 0) _ _ _ e) [
        | inl w ↦ of_introduced bytes all place name flag ways.Offset r named fits (tagged bytes name.next flag 0 flagged w.0) w.1
        | inr u ↦ elim (chosen (eqb flag.value 1) _ _ _ u.1) [
          | inl w ↦ of_introduced bytes all place name flag ways.Lookup r named fits (tagged bytes name.next flag 1 flagged w.0) w.1
          | inr u ↦ elim (chosen (eqb flag.value 2) _ _ _ u.1) [
            | inl w ↦ of_moved bytes all place name flag r named fits (tagged bytes name.next flag 2 flagged w.0) w.1
            | inr u ↦ absurd (let z = u.1 in cc)
          ]
        ]
      ]

  entry_takes : (bytes : List ℕ) → AreBytes bytes → (place : ℕ) (r : Read WireEntry) → place ≤ length bytes → entry_at classes bytes place ≡ Ok r → Stands bytes place (entry r.value) r.next × FitsEntry classes r.value
  unfolding entry_at
  entry_takes bytes all place r le e =
      let n = took text_at text FitsText text_field bytes all place le (λ name. number_at w8 bytes name.next >>= flagged_at classes bytes name) r e in
      let f = took (number_at w8) (number w8) (λ n. n < 2 ^ 8) byte_field bytes all n.0.next n.1.within (flagged_at classes bytes n.0) r n.3 in
      flagged_takes bytes all place n.0 f.0 r n.1 n.2 f.1 f.3

  regrouped : (bytes : List ℕ) (place : ℕ) (x y z : List ℕ) (next : ℕ) → Stands bytes place ((x ++ y) ++ z) next → Stands bytes place (x ++ (y ++ z)) next
  regrouped bytes place x y z next h = subst (λ (t : List ℕ). Stands bytes place t next) (append_assoc x y z) h

  -- a name and a flag that stand are read
  flag_went : (bytes : List ℕ) (place : ℕ) (name : List ℕ) (flag : ℕ) (rest : List ℕ) (next : ℕ) → Stands bytes place (text name ++ (number w8 flag ++ rest)) next → FitsText name → flag < 2 ^ 8 → (text_at bytes place ≡ done name (place + length (text name))) × (number_at w8 bytes (place + length (text name)) ≡ done flag (place + length (text name) + 1)) × Stands bytes (place + length (text name) + 1) rest next
  flag_went bytes place name flag rest next h fits lt =
      let n = went text_at text FitsText text_field bytes place name (number w8 flag ++ rest) next h fits in
      let f = went (number_at w8) (number w8) (λ n. n < 2 ^ 8) byte_field bytes (place + length (text name)) flag rest next n.1 lt in
      (n.0, f.0, f.1)

  entry_again : (bytes : List ℕ) (place : ℕ) (v : WireEntry) (next : ℕ) → Stands bytes place (entry v) next → FitsEntry classes v → entry_at classes bytes place ≡ done v next
  unfolding entry_at
  entry_again bytes place (entries.Introduced name s ways.Offset) next h fits =
      let f = flag_went bytes place name 0 (sig s) next (regrouped bytes place (text name) (number w8 0) (sig s) next h) fits.0 (omega arith) in
      let k = (sig_field classes small).again bytes (place + length (text name) + 1) s next f.2 fits.1 in
      rw (f.0, f.1, k) refl
  entry_again bytes place (entries.Introduced name s ways.Lookup) next h fits =
      let f = flag_went bytes place name 1 (sig s) next (regrouped bytes place (text name) (number w8 1) (sig s) next h) fits.0 (omega arith) in
      let k = (sig_field classes small).again bytes (place + length (text name) + 1) s next f.2 fits.1 in
      rw (f.0, f.1, k) refl
  entry_again bytes place (entries.Moved name to) next h fits =
      let f = flag_went bytes place name 2 (number w16 to) next h fits.0 (omega arith) in
      let k = (below_field classes (omega arith)).again bytes (place + length (text name) + 1) to next f.2 fits.1 in
      rw (f.0, f.1, k) refl

  pub entry_field : IsField (entry_at classes) entry (FitsEntry classes)
  entry_field = record { takes = entry_takes; again = entry_again }

-- ---- methods

method_takes : (ranges : Ranges) → AreShort ranges → (bytes : List ℕ) → AreBytes bytes → (place : ℕ) (r : Read WireMethod) → place ≤ length bytes → method_at ranges bytes place ≡ Ok r → Stands bytes place (method r.value) r.next × FitsMethod ranges r.value
unfolding method_at
method_takes ranges short bytes all place r le e =
    let c = took (below_at ranges.classes) (number w16) (λ n. n < ranges.classes) (below_field ranges.classes (omega (arith, short.classes))) bytes all place le (λ class. below_at (slice_index ranges.entries class.value) bytes class.next >>= λ slot. done (record { class = class.value; slot = slot.value }) slot.next) r e in
    let limit : ℕ = slice_index ranges.entries c.0.value in
    let s = took (below_at limit) (number w16) (λ n. n < limit) (below_field limit (omega (arith, short.entries c.0.value))) bytes all c.0.next c.1.within (λ slot. done (record { class = c.0.value; slot = slot.value }) slot.next) r c.3 in
    came method (FitsMethod ranges) bytes place (record { class = c.0.value; slot = s.0.value }) s.0.next r s.3 (Stands-join bytes place (number w16 c.0.value) c.0.next (number w16 s.0.value) s.0.next c.1 s.1) (record { class = c.2; slot = s.2 })

method_again : (ranges : Ranges) → AreShort ranges → (bytes : List ℕ) (place : ℕ) (v : WireMethod) (next : ℕ) → Stands bytes place (method v) next → FitsMethod ranges v → method_at ranges bytes place ≡ done v next
unfolding method_at
method_again ranges short bytes place v next h fits =
    let c = went (below_at ranges.classes) (number w16) (λ n. n < ranges.classes) (below_field ranges.classes (omega (arith, short.classes))) bytes place v.class (number w16 v.slot) next h fits.class in
    let s = (below_field (slice_index ranges.entries v.class) (omega (arith, short.entries v.class))).again bytes (place + length (number w16 v.class)) v.slot next c.1 fits.slot in
    rw (c.0, s) refl

pub method_field : (ranges : Ranges) → AreShort ranges → IsField (method_at ranges) method (FitsMethod ranges)
method_field ranges short = record { takes = method_takes ranges short; again = method_again ranges short }
