-- Reading a library image answers what the bytes spell, and nothing else.
use Rattle.std.proofs.Common.{◌≡◌, ℕ, ◌+◌, ◌≤◌, List, ◌++◌, length, Result, Ok, refl, sym, ap, subst, ◌∙◌, arith}
use Rattle.std.specs.Prelude.{nat_lt, codes}
use Rattle.std.specs.List.{flat_map}
use Rattle.som_model.specs.Bytes.{AreBytes}
use Rattle.som_model.specs.Steps.{◌>>=◌}
use Rattle.som_image_fields.specs.declared.fault.ImageFault.{ImageFault}
use Rattle.som_image_fields.specs.declared.fault.ImageFault.TheVariants as faults
use Rattle.som_image_fields.specs.declared.read.Read.{Read}
use Rattle.som_image_fields.specs.declared.face.WireFace.{WireFace}
use Rattle.som_image_fields.specs.Fields.{Stands, done}
use Rattle.som_image_fields.proofs.Parts.{IsField, Stands-join, guard_no, came, took, went}
use Rattle.som_image_fields.specs.declared.syntax.WirePart.{WirePart}
use Rattle.som_image_fields.specs.declared.selects.WireSelects.{WireSelects}
use Rattle.som_image_fields.specs.SyntaxSpelling.{part}
use Rattle.som_image_classes.specs.ReadClasses.{ranges_of, faces_at, parts_at, section_at, head_at, at_end}
use Rattle.som_image_classes.specs.SpelledClasses.{FitsParts, FitsFaces, head, section, version_with}
use Rattle.som_image_classes.proofs.ClassFields.{spell_faces, faces_field, ranges_short, parts_field, beginning, IsVersion, head_field, IsSection, section_field, all_bytes, stands_whole, ends_there}
use Rattle.som_image_classes.proofs.NamedSelects.{version_known}
use Rattle.som_libimage.specs.declared.wire.WireRelease.{WireRelease}
use Rattle.som_libimage.specs.Reading.{classes_at, wire_at}
use Rattle.som_libimage.specs.Spelling.{bodies, classes, FitsRelease, library}

abbrev a_release : List WireFace → List WirePart → List WireSelects → WireRelease
a_release fs ps ss = record { faces = fs; parts = ps; selects = ss }

abbrev after_selects : List WireFace → List WirePart → Read (List WireSelects) → Result (Read WireRelease) ImageFault
after_selects fs ps ss = done (a_release fs ps ss.value) ss.next

module _ (version : ℕ) (least : 1 ≤ version) (most : version ≤ 2) where
  -- a release in an image of this version
  abbrev pub FitsAt : WireRelease → Type 0
  FitsAt w = FitsRelease w × (version_with w.selects ≡ version)

  abbrev after_parts : List WireFace → List ℕ → Read (List WirePart) → Result (Read WireRelease) ImageFault
  after_parts fs bytes ps = section_at version (ranges_of fs) 4 bytes ps.next >>= after_selects fs ps.value

  abbrev after_faces : List ℕ → Read (List WireFace) → Result (Read WireRelease) ImageFault
  after_faces bytes fs = parts_at (ranges_of fs.value) fs.value bytes fs.next >>= after_parts fs.value bytes

  classes_takes : (bytes : List ℕ) → AreBytes bytes → (place : ℕ) (r : Read WireRelease) → place ≤ length bytes → classes_at version bytes place ≡ Ok r → Stands bytes place (classes r.value) r.next × FitsAt r.value
  unfolding classes_at
  classes_takes bytes all place r le e =
      let a = took faces_at spell_faces FitsFaces faces_field bytes all place le (after_faces bytes) r e in
      let fs : List WireFace = a.0.value in
      let short = ranges_short fs a.2 in
      let b = took (parts_at (ranges_of fs) fs) (flat_map part) (FitsParts (ranges_of fs) fs) (parts_field (ranges_of fs) short fs) bytes all a.0.next a.1.within (after_parts fs bytes) r a.3 in
      let c = took (section_at version (ranges_of fs) 4) section (IsSection version (ranges_of fs) 4) (section_field (ranges_of fs) short 4 version least most) bytes all b.0.next b.1.within (after_selects fs b.0.value) r b.3 in
      let s1 = Stands-join bytes a.0.next (flat_map part b.0.value) b.0.next (section c.0.value) c.0.next b.1 c.1 in
      let s2 = Stands-join bytes place (spell_faces fs) a.0.next (flat_map part b.0.value ++ section c.0.value) c.0.next a.1 s1 in
      came classes FitsAt bytes place (a_release fs b.0.value c.0.value) c.0.next r c.3 s2 (record { faces = a.2; parts = b.2; selects = c.2.0 }, c.2.1)

  classes_again : (bytes : List ℕ) (place : ℕ) (v : WireRelease) (next : ℕ) → Stands bytes place (classes v) next → FitsAt v → classes_at version bytes place ≡ done v next
  unfolding classes_at
  classes_again bytes place v next h fits =
      let fs : List WireFace = v.faces in
      let short = ranges_short fs fits.0.faces in
      let a = went faces_at spell_faces FitsFaces faces_field bytes place fs (bodies v) next h fits.0.faces in
      let p1 : ℕ = place + length (spell_faces fs) in
      let b = went (parts_at (ranges_of fs) fs) (flat_map part) (FitsParts (ranges_of fs) fs) (parts_field (ranges_of fs) short fs) bytes p1 v.parts (section v.selects) next a.1 fits.0.parts in
      let c = (section_field (ranges_of fs) short 4 version least most).again bytes (p1 + length (flat_map part v.parts)) v.selects next b.1 (fits.0.selects, fits.1) in
      rw (a.0, b.0, c) refl

  pub classes_field : IsField (classes_at version) classes FitsAt
  classes_field = record { takes = classes_takes; again = classes_again }

abbrev answered : WireRelease → Result WireRelease ImageFault
answered w = Ok w

ok_same : (x y : WireRelease) → answered x ≡ answered y → x ≡ y
ok_same x y e = cc

abbrev soml : List ℕ
soml = codes "SOML"

-- what is read is spelled so
pub wire_takes : (bytes : List ℕ) → AreBytes bytes → (w : WireRelease) → wire_at bytes ≡ Ok w → (bytes ≡ library w) × FitsRelease w
unfolding wire_at
wire_takes bytes all w e =
    let v = took (head_at soml 2) (beginning soml 2) (IsVersion soml 2) (head_field soml 2 (omega arith)) bytes all 0 (omega arith) (λ version. classes_at version.value bytes version.next >>= at_end bytes) w e in
    let version : ℕ = v.0.value in
    let c = took (classes_at version) classes (FitsAt version v.2.0 v.2.1) (classes_field version v.2.0 v.2.1) bytes all v.0.next v.1.within (at_end bytes) w v.3 in
    let g = guard_no (nat_lt c.0.next (length bytes)) (faults.Trailing c.0.next) (Ok c.0.value) w c.3 in
    let both = Stands-join bytes 0 (head soml version) v.0.next (classes c.0.value) c.0.next v.1 c.1 in
    let is : bytes ≡ head soml version ++ classes c.0.value = all_bytes bytes (head soml version ++ classes c.0.value) c.0.next both g.0 in
    let whole : head soml version ++ classes c.0.value ≡ library c.0.value = ap (λ (n : ℕ). head soml n ++ classes c.0.value) (sym c.2.1) in
    let same : c.0.value ≡ w = ok_same c.0.value w g.1 in
    subst (λ (x : WireRelease). (bytes ≡ library x) × FitsRelease x) same (is ∙ whole, c.2.0)

-- what is spelled so is read
pub wire_again : (w : WireRelease) → FitsRelease w → wire_at (library w) ≡ Ok w
unfolding wire_at
wire_again w fits =
    let bytes : List ℕ = library w in
    let version : ℕ = version_with w.selects in
    let known = version_known w.selects in
    let h = went (head_at soml 2) (beginning soml 2) (IsVersion soml 2) (head_field soml 2 (omega arith)) bytes 0 version (classes w) (length bytes) (stands_whole bytes) known in
    let c = (classes_field version known.0 known.1).again bytes (0 + length (head soml version)) w (length bytes) h.1 (fits, refl) in
    rw (h.0, c, ends_there (length bytes)) refl
