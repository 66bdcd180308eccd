-- Faces are fields.
use Rattle.std.proofs.Common.{◌≡◌, ℕ, ◌+◌, ◌^◌, ◌<◌, ◌≤◌, cond, eqb, List, [], ◌∷◌, ◌++◌, length, Option, Some, None, Result, Ok, Err, refl, subst, append_assoc, arith, inl, inr}
use Rattle.std.specs.Prelude.{IfSome}
use Rattle.std.specs.Int.{w8, w16, w32}
use Rattle.som_model.specs.declared.limits.TheConstants.{MAX_VERSION, MAX_PARENTS, MAX_ENTRIES}
use Rattle.som_model.specs.Bytes.{AreBytes}
use Rattle.som_model.specs.Steps.{◌>>=◌}
use Rattle.som_image_fields.specs.declared.fault.ImageFault.{ImageFault}
use Rattle.som_image_fields.specs.declared.fault.ImageFault.TheVariants as faults
use Rattle.som_image_fields.specs.declared.read.Read.{Read}
use Rattle.som_image_fields.specs.declared.entry.WireEntry.{WireEntry}
use Rattle.som_image_fields.specs.declared.face.WireFace.{WireFace}
use Rattle.som_image_fields.specs.Fields.{Stands, done, counted_at}
use Rattle.som_image_fields.specs.Spelling.{number, text, FitsText, counted, FitsCounted, entry, FitsEntry, metaclass, face, FitsFace}
use Rattle.som_image_fields.specs.Reading.{number_at, text_at, below_at, version_at, metaclass_at, entry_at, face_at}
use Rattle.som_image_fields.proofs.Parts.{IsField, Stands-join, chosen, came, took, went}
use Rattle.som_image_fields.proofs.NumberFields.{byte_field, short_field, below_field, version_field, text_field}
use Rattle.som_image_fields.proofs.ManyFields.{counted_field}
use Rattle.som_image_fields.proofs.TypeFields.{tagged}
use Rattle.som_image_fields.proofs.EntryFields.{entry_field}

module _ (classes : ℕ) (small : classes < 2 ^ 16) where
  -- ---- metaclasses

  abbrev after_flag : List ℕ → ℕ → Read ℕ → Result (Read (Option ℕ)) ImageFault
  after_flag bytes place flag =
      cond (eqb flag.value 0) (done None flag.next)
      (cond (eqb flag.value 1) (below_at classes bytes flag.next >>= λ class. done (Some class.value) class.next)
      (Err (faults.Tag place)))

  abbrev FitsMetaclass : Option ℕ → Type 0
  FitsMetaclass m = IfSome m (λ class. class < classes)

  metaclass_takes : (bytes : List ℕ) → AreBytes bytes → (place : ℕ) (r : Read (Option ℕ)) → place ≤ length bytes → metaclass_at classes bytes place ≡ Ok r → Stands bytes place (metaclass r.value) r.next × FitsMetaclass r.value
  unfolding metaclass_at
  metaclass_takes bytes all place r le e =
      let f = took (number_at w8) (number w8) (λ n. n < 2 ^ 8) byte_field bytes all place le (after_flag bytes place) r e in
      let flag = f.0 in
      elim (chosen (eqb flag.value 0) _ _ _ f.3) [
        | inl w ↦ came metaclass FitsMetaclass bytes place None flag.next r w.1 (tagged bytes place flag 0 f.1 w.0) tt
        | inr u ↦ elim (chosen (eqb flag.value 1) _ _ _ u.1) [
          | inl w ↦
              let flagged = tagged bytes place flag 1 f.1 w.0 in
              let c = took (below_at classes) (number w16) (λ n. n < classes) (below_field classes (omega arith)) bytes all flag.next flagged.within (λ class. done (Some class.value) class.next) r w.1 in
              came metaclass FitsMetaclass bytes place (Some c.0.value) c.0.next r c.3 (Stands-join bytes place (1 ∷ []) flag.next (number w16 c.0.value) c.0.next flagged c.1) c.2
          | inr u ↦ absurd (let z = u.1 in cc)
        ]
      ]

  metaclass_again : (bytes : List ℕ) (place : ℕ) (v : Option ℕ) (next : ℕ) → Stands bytes place (metaclass v) next → FitsMetaclass v → metaclass_at classes bytes place ≡ done v next
  unfolding metaclass_at
  metaclass_again bytes place None next h fits = rw (byte_field.again bytes place 0 next h (omega arith)) refl
  metaclass_again bytes place (Some c) next h fits =
      let flag = went (number_at w8) (number w8) (λ n. n < 2 ^ 8) byte_field bytes place 1 (number w16 c) next h (omega arith) in
      rw (flag.0, (below_field classes (omega arith)).again bytes (place + 1) c next flag.1 fits) refl

  metaclass_field : IsField (metaclass_at classes) metaclass FitsMetaclass
  metaclass_field = record { takes = metaclass_takes; again = metaclass_again }

  -- ---- lists

  abbrev parents_at : List ℕ → ℕ → Result (Read (List ℕ)) ImageFault
  parents_at bytes = counted_at (number_at w8 bytes) 1 MAX_PARENTS (below_at classes bytes)

  abbrev parents : List ℕ → List ℕ
  parents = counted w8 (number w16)

  abbrev FitsParents : List ℕ → Type 0
  FitsParents = FitsCounted 1 MAX_PARENTS (λ class. class < classes)

  parents_field : IsField parents_at parents FitsParents
  parents_field = counted_field w8 (2 ^ 8) byte_field (below_at classes) (number w16) (λ class. class < classes) (below_field classes (omega arith)) 1 MAX_PARENTS (omega arith)

  abbrev entries_at : List ℕ → ℕ → Result (Read (List WireEntry)) ImageFault
  entries_at bytes = counted_at (number_at w16 bytes) 0 MAX_ENTRIES (entry_at classes bytes)

  abbrev entries : List WireEntry → List ℕ
  entries = counted w16 entry

  abbrev FitsEntries : List WireEntry → Type 0
  FitsEntries = FitsCounted 0 MAX_ENTRIES (FitsEntry classes)

  entries_field : IsField entries_at entries FitsEntries
  entries_field = counted_field w16 (2 ^ 16) short_field (entry_at classes) entry (FitsEntry classes) (entry_field classes small) 0 MAX_ENTRIES (omega arith)

  -- ---- faces

  abbrev version : ℕ → List ℕ
  version n = number w32 n

  abbrev FitsVersion : ℕ → Type 0
  FitsVersion n = n ≤ MAX_VERSION

  -- what is read of a face after each of its fields
  abbrev after_entries : Read (List ℕ) → Read ℕ → Read ℕ → Read (List ℕ) → Read (Option ℕ) → Read (List WireEntry) → Result (Read WireFace) ImageFault
  after_entries name major minor parents metaclass entries = done (record { name = name.value; major = major.value; minor = minor.value; parents = parents.value; metaclass = metaclass.value; entries = entries.value }) entries.next

  abbrev after_metaclass : List ℕ → Read (List ℕ) → Read ℕ → Read ℕ → Read (List ℕ) → Read (Option ℕ) → Result (Read WireFace) ImageFault
  after_metaclass bytes name major minor parents metaclass = entries_at bytes metaclass.next >>= after_entries name major minor parents metaclass

  abbrev after_parents : List ℕ → Read (List ℕ) → Read ℕ → Read ℕ → Read (List ℕ) → Result (Read WireFace) ImageFault
  after_parents bytes name major minor parents = metaclass_at classes bytes parents.next >>= after_metaclass bytes name major minor parents

  abbrev after_minor : List ℕ → Read (List ℕ) → Read ℕ → Read ℕ → Result (Read WireFace) ImageFault
  after_minor bytes name major minor = parents_at bytes minor.next >>= after_parents bytes name major minor

  abbrev after_major : List ℕ → Read (List ℕ) → Read ℕ → Result (Read WireFace) ImageFault
  after_major bytes name major = version_at bytes major.next >>= after_minor bytes name major

  abbrev after_name : List ℕ → Read (List ℕ) → Result (Read WireFace) ImageFault
  after_name bytes name = version_at bytes name.next >>= after_major bytes name

  face_takes : (bytes : List ℕ) → AreBytes bytes → (place : ℕ) (r : Read WireFace) → place ≤ length bytes → face_at classes bytes place ≡ Ok r → Stands bytes place (face r.value) r.next × FitsFace classes r.value
  unfolding face_at
  face_takes bytes all place r le e =
      let a = took text_at text FitsText text_field bytes all place le (after_name bytes) r e in
      let b = took version_at version FitsVersion version_field bytes all a.0.next a.1.within (after_major bytes a.0) r a.3 in
      let c = took version_at version FitsVersion version_field bytes all b.0.next b.1.within (after_minor bytes a.0 b.0) r b.3 in
      let d = took parents_at parents FitsParents parents_field bytes all c.0.next c.1.within (after_parents bytes a.0 b.0 c.0) r c.3 in
      let m = took (metaclass_at classes) metaclass FitsMetaclass metaclass_field bytes all d.0.next d.1.within (after_metaclass bytes a.0 b.0 c.0 d.0) r d.3 in
      let n = took entries_at entries FitsEntries entries_field bytes all m.0.next m.1.within (after_entries a.0 b.0 c.0 d.0 m.0) r m.3 in
      let s = Stands-join bytes place (text a.0.value) a.0.next (version b.0.value) b.0.next a.1 b.1 in
      let t = Stands-join bytes place (text a.0.value ++ version b.0.value) b.0.next (version c.0.value) c.0.next s c.1 in
      let u = Stands-join bytes place (text a.0.value ++ version b.0.value ++ version c.0.value) c.0.next (parents d.0.value) d.0.next t d.1 in
      let v = Stands-join bytes place (text a.0.value ++ version b.0.value ++ version c.0.value ++ parents d.0.value) d.0.next (metaclass m.0.value) m.0.next u m.1 in
      let w = Stands-join bytes place (text a.0.value ++ version b.0.value ++ version c.0.value ++ parents d.0.value ++ metaclass m.0.value) m.0.next (entries n.0.value) n.0.next v n.1 in
      came face (FitsFace classes) bytes place (record { name = a.0.value; major = b.0.value; minor = c.0.value; parents = d.0.value; metaclass = m.0.value; entries = n.0.value }) n.0.next r n.3 w (record { name = a.2; major = b.2; minor = c.2; parents = d.2; metaclass = m.2; entries = n.2 })

  regroup : (a b c d e f : List ℕ) → a ++ b ++ c ++ d ++ e ++ f ≡ a ++ (b ++ (c ++ (d ++ (e ++ f))))
  regroup a b c d e f = simp append_assoc

  face_again : (bytes : List ℕ) (place : ℕ) (v : WireFace) (next : ℕ) → Stands bytes place (face v) next → FitsFace classes v → face_at classes bytes place ≡ done v next
  unfolding face_at
  face_again bytes place v next h fits =
      let fourth : List ℕ = metaclass v.metaclass ++ entries v.entries in
      let third : List ℕ = parents v.parents ++ fourth in
      let second : List ℕ = version v.minor ++ third in
      let whole : Stands bytes place (text v.name ++ (version v.major ++ second)) next = subst (λ (t : List ℕ). Stands bytes place t next) (regroup (text v.name) (version v.major) (version v.minor) (parents v.parents) (metaclass v.metaclass) (entries v.entries)) h in
      let a = went text_at text FitsText text_field bytes place v.name (version v.major ++ second) next whole fits.name in
      let p : ℕ = place + length (text v.name) in
      let b = went version_at version FitsVersion version_field bytes p v.major second next a.1 fits.major in
      let q : ℕ = p + length (version v.major) in
      let c = went version_at version FitsVersion version_field bytes q v.minor third next b.1 fits.minor in
      let s : ℕ = q + length (version v.minor) in
      let d = went parents_at parents FitsParents parents_field bytes s v.parents fourth next c.1 fits.parents in
      let t : ℕ = s + length (parents v.parents) in
      let m = went (metaclass_at classes) metaclass FitsMetaclass metaclass_field bytes t v.metaclass (entries v.entries) next d.1 fits.metaclass in
      let n = entries_field.again bytes (t + length (metaclass v.metaclass)) v.entries next m.1 fits.entries in
      rw (a.0, b.0, c.0, d.0, m.0, n) refl

  pub face_field : IsField (face_at classes) face (FitsFace classes)
  face_field = record { takes = face_takes; again = face_again }
