-- Reading faces, parts and heads answers what the bytes spell, and nothing else.
use Rattle.std.proofs.Common.{◌≡◌, ℕ, zero, suc, ◌+◌, ◌^◌, ◌<◌, ◌≤◌, inl, inr, Bool, true, false, cond, eqb, ltb, leb, List, [], ◌∷◌, ◌++◌, length, drop, map, Result, Ok, Err, refl, sym, ap, subst, ◌∙◌, arith}
use Rattle.std.specs.Prelude.{◌&&◌, nat_lt, nat_eq, slice_index, All}
use Rattle.std.specs.List.{flat_map, starts_with, AllByRecursion}
use Rattle.std.specs.Int.{w8, w16}
use Rattle.std.proofs.lemmas.Bool.{ltb-false, le-ltb, leb-true, le-leb, eqb-true, eqb-false}
use Rattle.std.proofs.lemmas.Bool.Decides.{Decides-eqb}
use Rattle.std.proofs.lemmas.List.{append-nil, length-append, length-drop, drop-drop}
use Rattle.std.proofs.lemmas.List.Elements.{All-from_recursion, All-weaker, recursion_from_All}
use Rattle.std.proofs.lemmas.Slice.Eq.{starts_is}
use Rattle.std.proofs.Math.Seq.{drop-length}
use Rattle.som_model.specs.declared.limits.TheConstants.{MAX_ENTRIES, MAX_LIBRARY_CLASSES}
use Rattle.som_model.specs.Bytes.{AreBytes}
use Rattle.som_model.specs.Steps.{◌>>=◌}
use Rattle.som_model.proofs.KeyLaws.{both}
use Rattle.som_image_fields.specs.declared.fault.ImageFault.{ImageFault}
use Rattle.som_image_fields.specs.declared.fault.ImageFault.TheVariants as faults
use Rattle.som_image_fields.specs.declared.read.Read.{Read}
use Rattle.som_image_fields.specs.declared.face.WireFace.{WireFace}
use Rattle.som_image_fields.specs.declared.method.Ranges.{Ranges}
use Rattle.som_image_fields.specs.Fields.{Stands, done, many_at}
use Rattle.som_image_fields.specs.Spelling.{number, counted, face, FitsFace, FitsMethod, AreShort}
use Rattle.som_image_fields.specs.Reading.{number_at, face_at}
use Rattle.som_image_fields.proofs.Parts.{IsField, Stands-join, Stands-back, Stands-front, bind_ok, chosen, guard_no, guard_yes, same_read, came, took, went}
use Rattle.som_image_fields.proofs.NumberFields.{number-w8, byte_field, short_field}
use Rattle.som_image_fields.proofs.ManyFields.{many_field}
use Rattle.som_image_fields.proofs.FaceFields.{face_field}
use Rattle.som_wire.specs.Reading.{part_at}
use Rattle.som_image_fields.specs.declared.method.WireMethod.{WireMethod}
use Rattle.som_image_fields.specs.declared.selects.WireSelect.{WireSelect}
use Rattle.som_image_fields.specs.declared.selects.WireSelects.{WireSelects}
use Rattle.som_image_fields.specs.SyntaxSpelling.{part, selects}
use Rattle.som_image_fields.specs.Fitting.{FitsSelect, FitsClassSelects, FitAscending, FitsSelects}
use Rattle.som_wire.proofs.SelectFields.{selects_field, selects_some}
use Rattle.som_wire.proofs.PartFields.{part_field}
use Rattle.som_image_classes.specs.ReadClasses.{introduced_count, ranges_of, faces_after_at, faces_at, parts_at, magic_at, head_at, section_at}
use Rattle.som_image_classes.specs.SpelledClasses.{FitsClass, FitsParts, FitsFacesAfter, FitsFaces, head, version_with, section, FitsSection, FitsSomeSection}
use Rattle.som_image_classes.specs.NamedClasses.{AreSelectsOf}
use Rattle.som_image_classes.proofs.EachFields.{each_field}
use Rattle.som_image_decode.proofs.Places.{all_map}

-- ---- faces

abbrev pub spell_faces : List WireFace → List ℕ
spell_faces fs = counted w16 face fs

module _ (before most : ℕ) (small : before + most < 2 ^ 16) where
  abbrev after_count : List ℕ → ℕ → Read ℕ → Result (Read (List WireFace)) ImageFault
  after_count bytes place count = cond (ltb most count.value) (Err (faults.Number place)) (many_at (face_at (count.value + before) bytes) count.value count.next)

  faces_takes : (bytes : List ℕ) → AreBytes bytes → (place : ℕ) (r : Read (List WireFace)) → place ≤ length bytes → faces_after_at before most bytes place ≡ Ok r → Stands bytes place (spell_faces r.value) r.next × FitsFacesAfter before most r.value
  unfolding faces_after_at
  faces_takes bytes all place r le e =
      let n = took (number_at w16) (number w16) (λ n. n < 2 ^ 16) short_field bytes all place le (after_count bytes place) r e in
      let count = n.0 in
      let g = guard_no (ltb most count.value) (faults.Number place) (many_at (face_at (count.value + before) bytes) count.value count.next) r n.3 in
      let few : count.value ≤ most = ltb-false _ _ g.0 in
      let t = (many_field (face_at (count.value + before)) face (FitsFace (count.value + before)) (face_field (count.value + before) (omega (arith, small, few))) count.value).takes bytes all count.next r n.1.within g.1 in
      let same : length r.value ≡ count.value = t.1.0 in
      let counted_n : Stands bytes place (number w16 (length r.value)) count.next = subst (λ (k : ℕ). Stands bytes place (number w16 k) count.next) (sym same) n.1 in
      let each : All (FitsFace (length r.value + before)) r.value = subst (λ (k : ℕ). All (FitsFace (k + before)) r.value) (sym same) t.1.1 in
      (Stands-join bytes place (number w16 (length r.value)) count.next (flat_map face r.value) r.next counted_n t.0, (omega arith, omega (arith, same, few), each))

  faces_again : (bytes : List ℕ) (place : ℕ) (v : List WireFace) (next : ℕ) → Stands bytes place (spell_faces v) next → FitsFacesAfter before most v → faces_after_at before most bytes place ≡ done v next
  unfolding faces_after_at
  faces_again bytes place v next h fits =
      let few : length v ≤ most = fits.1 in
      let n = went (number_at w16) (number w16) (λ n. n < 2 ^ 16) short_field bytes place (length v) (flat_map face v) next h (omega (arith, small, few)) in
      let many = (many_field (face_at (length v + before)) face (FitsFace (length v + before)) (face_field (length v + before) (omega (arith, small, few))) (length v)).again bytes (place + length (number w16 (length v))) v next n.1 (refl, fits.2) in
      rw (n.0, le-ltb most (length v) few, many) refl

  pub faces_after_field : IsField (faces_after_at before most) spell_faces (FitsFacesAfter before most)
  faces_after_field = record { takes = faces_takes; again = faces_again }

pub faces_field : IsField faces_at spell_faces FitsFaces
faces_field = faces_after_field 4 MAX_LIBRARY_CLASSES (omega arith)

-- ---- ranges

-- each class has few entries
pub faces_few : (before most : ℕ) (fs : List WireFace) → FitsFacesAfter before most fs → All (λ (f : WireFace). length f.entries ≤ MAX_ENTRIES) fs
faces_few before most fs fits =
    All-from_recursion (λ (f : WireFace). length f.entries ≤ MAX_ENTRIES) fs (all_map (FitsFace (length fs + before)) (λ (f : WireFace). length f.entries ≤ MAX_ENTRIES) (λ f h. h.entries.1) fs (recursion_from_All (FitsFace (length fs + before)) fs fits.2))

abbrev Few : WireFace → Type 0
Few f = length f.entries ≤ MAX_ENTRIES

lengths_short : (fs : List WireFace) → AllByRecursion Few fs → (i : ℕ) → slice_index (map (λ f. length f.entries) fs) i < 2 ^ 16
lengths_short [] h i = omega arith
lengths_short (f ∷ fs) h zero = omega (arith, h.0)
lengths_short (f ∷ fs) h (suc i) = lengths_short fs h.1 i

entries_short : (fs : List WireFace) → AllByRecursion Few fs → (i : ℕ) → slice_index ((ranges_of fs).entries) i < 2 ^ 16
entries_short fs h zero = omega arith
entries_short fs h (suc zero) = omega arith
entries_short fs h (suc (suc zero)) = omega arith
entries_short fs h (suc (suc (suc zero))) = omega arith
entries_short fs h (suc (suc (suc (suc i)))) = lengths_short fs h i

pub short_ranges : (fs : List WireFace) → length fs + 4 < 2 ^ 16 → All Few fs → AreShort (ranges_of fs)
short_ranges fs many few = record { classes = many; entries = entries_short fs (recursion_from_All Few fs few) }

pub ranges_short : (fs : List WireFace) → FitsFaces fs → AreShort (ranges_of fs)
ranges_short fs fits = short_ranges fs (omega (arith, fits.1)) (faces_few 4 MAX_LIBRARY_CLASSES fs fits)

-- ---- faces and parts

pub parts_field : (ranges : Ranges) → AreShort ranges → (fs : List WireFace) → IsField (parts_at ranges fs) (flat_map part) (FitsParts ranges fs)
parts_field ranges short fs = each_field (λ f bytes place. part_at ranges (introduced_count f) bytes place) part (FitsClass ranges) (λ f. part_field ranges short (introduced_count f)) fs

-- ---- selects that were read

own_known : (Method : WireMethod → Type 0) (classes : ℕ) (least : ℕ) (c : WireSelects) → FitsClassSelects classes Method least c → All (λ (s : WireSelect). Method s.method) c.selects
own_known Method classes least c fits = All-weaker (FitsSelect Method) (λ (s : WireSelect). Method s.method) (λ s f. f.method) c.selects fits.selects.2

each_known : (classes : ℕ) (Method : WireMethod → Type 0) (least : ℕ) (cs : List WireSelects) → FitAscending classes Method least cs → AllByRecursion (λ (c : WireSelects). All (λ (s : WireSelect). Method s.method) c.selects) cs
each_known classes Method least [] fits = tt
each_known classes Method least (c ∷ cs) fits = (own_known Method classes least c fits.0, each_known classes Method (suc c.class) cs fits.1)

pub selects_known : (classes : ℕ) (Method : WireMethod → Type 0) (first : ℕ) (cs : List WireSelects) → FitsSelects classes Method first cs → All (λ (c : WireSelects). All (λ (s : WireSelect). Method s.method) c.selects) cs
selects_known classes Method first cs fits = All-from_recursion (λ (c : WireSelects). All (λ (s : WireSelect). Method s.method) c.selects) cs (each_known classes Method first cs fits.ascend)

pub none_known : (ranges : Ranges) → AreSelectsOf ranges []
none_known ranges = All-from_recursion (λ (c : WireSelects). All (λ (s : WireSelect). FitsMethod ranges s.method) c.selects) [] tt

-- ---- the head

module _ (magic : List ℕ) (newest : ℕ) where
  abbrev pub IsVersion : ℕ → Type 0
  IsVersion n = (1 ≤ n) × (n ≤ newest)

  -- the beginning of an image that has a version
  abbrev pub beginning : ℕ → List ℕ
  beginning version = head magic version

  abbrev short_of : List ℕ → ℕ → Result ℕ ImageFault
  short_of bytes place = cond (starts_with nat_eq magic (drop place bytes)) (Err (faults.Cut (length bytes))) (Err (faults.Magic place))

  no_magic : (b c : Bool) (bytes : List ℕ) (place next : ℕ) → cond b (Ok (place + length magic)) (cond c (Err (faults.Cut (length bytes))) (Err (faults.Magic place))) ≡ Ok next → (b ≡ true) × (place + length magic ≡ next)
  no_magic true c bytes place next e = (refl, let z = e in cc)
  no_magic false true bytes place next e = absurd cc
  no_magic false false bytes place next e = absurd cc

  magic_takes : (bytes : List ℕ) (place next : ℕ) → place ≤ length bytes → magic_at magic bytes place ≡ Ok next → Stands bytes place magic next
  magic_takes bytes place next le e =
      let rest : List ℕ = drop place bytes in
      let g = no_magic (starts_with nat_eq rest magic) (starts_with nat_eq magic rest) bytes place next e in
      let is = (starts_is Decides-eqb rest magic (starts_with nat_eq rest magic) refl).0 g.0 in
      let parts : rest ≡ magic ++ drop (length magic) rest = is in
      let here : drop (length magic) rest ≡ drop (place + length magic) bytes = drop-drop (length magic) place bytes in
      subst (λ (n : ℕ). Stands bytes place magic n) g.1
      (record {
        parts = parts ∙ ap (λ (l : List ℕ). magic ++ l) here;
        moves = refl;
        within = omega (arith, le, length-append magic (drop (length magic) rest), ap (length {A = ℕ}) parts, length-drop place bytes);
      })

  magic_again : (bytes : List ℕ) (place next : ℕ) → Stands bytes place magic next → magic_at magic bytes place ≡ Ok next
  magic_again bytes place next h =
      let is : starts_with nat_eq (drop place bytes) magic ≡ true = (starts_is Decides-eqb (drop place bytes) magic (starts_with nat_eq (drop place bytes) magic) refl).1 (drop next bytes) h.parts in
      ap (λ (b : Bool). cond b (Ok (place + length magic)) (short_of bytes place)) is ∙ ap (λ (n : ℕ). Ok n) h.moves

  abbrev is_version : ℕ → Bool
  is_version n = leb 1 n && leb n newest

  abbrev after_version : ℕ → Read ℕ → Result (Read ℕ) ImageFault
  after_version start version = cond (is_version version.value) (Ok version) (Err (faults.Version start))

  head_takes : (bytes : List ℕ) → AreBytes bytes → (place : ℕ) (r : Read ℕ) → place ≤ length bytes → head_at magic newest bytes place ≡ Ok r → Stands bytes place (beginning r.value) r.next × IsVersion r.value
  unfolding head_at
  head_takes bytes all place r le e =
      let a = bind_ok (magic_at magic bytes place) (λ start. number_at w8 bytes start >>= after_version start) r e in
      let m = magic_takes bytes place a.0 le a.1 in
      let v = took (number_at w8) (number w8) (λ n. n < 2 ^ 8) byte_field bytes all a.0 m.within (after_version a.0) r a.2 in
      let g = guard_yes (is_version v.0.value) (faults.Version a.0) (Ok v.0) r v.3 in
      let b = both (leb 1 v.0.value) (leb v.0.value newest) g.0 in
      let one : Stands bytes a.0 (v.0.value ∷ []) v.0.next = subst (λ (t : List ℕ). Stands bytes a.0 t v.0.next) (number-w8 v.0.value v.2) v.1 in
      let whole = Stands-join bytes place magic a.0 (v.0.value ∷ []) v.0.next m one in
      subst (λ (x : Read ℕ). Stands bytes place (beginning x.value) x.next × IsVersion x.value) (same_read v.0 r g.1) (whole, (leb-true _ _ b.0, leb-true _ _ b.1))

  head_again : newest < 2 ^ 8 → (bytes : List ℕ) (place v next : ℕ) → Stands bytes place (beginning v) next → IsVersion v → head_at magic newest bytes place ≡ done v next
  unfolding head_at
  head_again small bytes place v next h is =
      let front = Stands-front bytes place magic (v ∷ []) next h in
      let back = Stands-back bytes place magic (v ∷ []) next h in
      let one : Stands bytes (place + length magic) (number w8 v) next = subst (λ (t : List ℕ). Stands bytes (place + length magic) t next) (sym (number-w8 v (omega (arith, is.1, small)))) back in
      let m = magic_again bytes place (place + length magic) front in
      let read = byte_field.again bytes (place + length magic) v next one (omega (arith, is.1, small)) in
      rw (m, read, le-leb 1 v is.0, le-leb v newest is.1) refl

  pub head_field : newest < 2 ^ 8 → IsField (head_at magic newest) beginning IsVersion
  head_field small = record { takes = head_takes; again = head_again small }

-- ---- selects

the_other : (n : ℕ) → 1 ≤ n → n ≤ 2 → (n ≡ 2 → ⊥) → n ≡ 1
the_other zero least most other = absurd (omega arith)
the_other (suc zero) least most other = refl
the_other (suc (suc zero)) least most other = absurd (other refl)
the_other (suc (suc (suc n))) least most other = absurd (omega arith)

-- a section that an image of this version has
abbrev pub IsSection : ℕ → Ranges → ℕ → List WireSelects → Type 0
IsSection version ranges first cs = FitsSection ranges first cs × (version_with cs ≡ version)

module _ (ranges : Ranges) (short : AreShort ranges) (first : ℕ) where
  abbrev FitsThese : List WireSelects → Type 0
  FitsThese = FitsSelects ranges.classes (FitsMethod ranges) first

  -- selects that were read are a section
  as_section : (bytes : List ℕ) (place : ℕ) (cs : List WireSelects) (next : ℕ) → Stands bytes place (selects cs) next → FitsThese cs → Stands bytes place (section cs) next × IsSection 2 ranges first cs
  as_section bytes place [] next h fits = let some = fits.some in absurd (omega (arith, some))
  as_section bytes place (c ∷ cs) next h fits = (h, (fits, refl))

  section_takes : (version : ℕ) → 1 ≤ version → version ≤ 2 → (bytes : List ℕ) → AreBytes bytes → (place : ℕ) (r : Read (List WireSelects)) → place ≤ length bytes → section_at version ranges first bytes place ≡ Ok r → Stands bytes place (section r.value) r.next × IsSection version ranges first r.value
  section_takes version least most bytes all place r le e = elim (chosen (eqb version 2) _ _ _ e) [
    | inl w ↦
        let two : version ≡ 2 = eqb-true _ _ w.0 in
        let t = (selects_field ranges short first).takes bytes all place r le w.1 in
        let s = as_section bytes place r.value r.next t.0 t.1 in
        (s.0, (s.1.0, s.1.1 ∙ sym two))
    | inr u ↦
        let one : version ≡ 1 = the_other version least most (eqb-false _ _ u.0) in
        came section (IsSection version ranges first) bytes place [] place r u.1 (record { parts = refl; moves = omega arith; within = le }) (tt, sym one)
  ]

  section_again : (version : ℕ) (bytes : List ℕ) (place : ℕ) (cs : List WireSelects) (next : ℕ) → Stands bytes place (section cs) next → IsSection version ranges first cs → section_at version ranges first bytes place ≡ done cs next
  section_again version bytes place [] next h is =
      let moved : place ≡ next = omega (arith, h.moves) in
      ap (λ (n : ℕ). section_at n ranges first bytes place) (sym is.1) ∙ ap (λ (n : ℕ). done [] n) moved
  section_again version bytes place (c ∷ cs) next h is =
      ap (λ (n : ℕ). section_at n ranges first bytes place) (sym is.1) ∙ (selects_field ranges short first).again bytes place (c ∷ cs) next h is.0

  pub section_field : (version : ℕ) → 1 ≤ version → version ≤ 2 → IsField (section_at version ranges first) section (IsSection version ranges first)
  section_field version least most = record { takes = section_takes version least most; again = section_again version }

  -- and can be written
  pub section_written : (cs : List WireSelects) → FitsSection ranges first cs → FitsSomeSection cs
  section_written [] fits = tt
  section_written (c ∷ cs) fits = selects_some ranges short first (c ∷ cs) fits

  -- its methods are those of classes that there are
  pub section_known : (cs : List WireSelects) → FitsSection ranges first cs → AreSelectsOf ranges cs
  section_known [] fits = none_known ranges
  section_known (c ∷ cs) fits = selects_known ranges.classes (FitsMethod ranges) first (c ∷ cs) fits

-- ---- whole images

-- bytes in which a text stands from the first on, with nothing left, are that text
pub all_bytes : (bytes t : List ℕ) (next : ℕ) → Stands bytes 0 t next → nat_lt next (length bytes) ≡ false → bytes ≡ t
all_bytes bytes t next h e =
    let end : length bytes ≡ next = omega (arith, h.within, ltb-false next (length bytes) e) in
    h.parts ∙ ap (λ (n : ℕ). t ++ drop n bytes) (sym end) ∙ ap (λ (l : List ℕ). t ++ l) (drop-length bytes) ∙ append-nil t

pub stands_whole : (t : List ℕ) → Stands t 0 t (length t)
stands_whole t = record { parts = sym (append-nil t) ∙ ap (λ (l : List ℕ). t ++ l) (sym (drop-length t)); moves = omega arith; within = omega arith }

pub ends_there : (n : ℕ) → nat_lt n n ≡ false
ends_there n = le-ltb n n (omega arith)
