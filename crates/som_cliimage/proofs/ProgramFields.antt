-- Reading a client image answers what the bytes spell, and nothing else.
use Rattle.std.proofs.Common.{◌≡◌, ℕ, ◌+◌, ◌^◌, ◌<◌, ◌≤◌, false, List, ◌++◌, length, drop, Result, Ok, refl, sym, ap, subst, ◌∙◌, append_assoc, arith}
use Rattle.std.specs.Prelude.{nat_lt, codes, All}
use Rattle.std.specs.List.{flat_map}
use Rattle.std.specs.Int.{w16, w32}
use Rattle.std.proofs.lemmas.Bool.{ltb-false}
use Rattle.std.proofs.lemmas.List.{append-nil, length-append, length-drop}
use Rattle.std.proofs.Math.Seq.{drop-length}
use Rattle.std.proofs.lemmas.List.Elements.{All-from_recursion, recursion_from_All}
use Rattle.som_model.specs.declared.limits.TheConstants.{MAX_ENTRIES, MAX_LIBRARY_CLASSES, MAX_CLIENT_CLASSES}
use Rattle.som_model.specs.Bytes.{AreBytes}
use Rattle.som_model.specs.Steps.{◌>>=◌}
use Rattle.som_image_fields.specs.declared.fault.ImageFault.{ImageFault}
use Rattle.som_image_fields.specs.declared.fault.ImageFault.TheVariants as faults
use Rattle.som_image_fields.specs.declared.read.Read.{Read}
use Rattle.som_image_fields.specs.declared.face.WireFace.{WireFace}
use Rattle.som_image_fields.specs.declared.method.Ranges.{Ranges}
use Rattle.som_image_fields.specs.Fields.{Stands, done}
use Rattle.som_image_fields.specs.Spelling.{number, counted, face, AreShort}
use Rattle.som_image_fields.proofs.Parts.{IsField, Stands-join, bind_ok, guard_no, came, took, went}
use Rattle.som_image_fields.proofs.NumberFields.{short_field, long_field}
use Rattle.som_image_fields.proofs.Forms.{block_is}
use Rattle.som_image_fields.specs.declared.syntax.WirePart.{WirePart}
use Rattle.som_image_fields.specs.declared.syntax.WireBlock.{WireBlock}
use Rattle.som_image_fields.specs.declared.selects.WireSelects.{WireSelects}
use Rattle.som_image_fields.specs.Fitting.{levels_left}
use Rattle.som_wire.specs.Reading.{block_at}
use Rattle.som_image_fields.specs.SyntaxSpelling.{part, stmt, block}
use Rattle.som_wire.proofs.StmtFields.{block_field}
use Rattle.som_image_decode.proofs.Places.{all_joined}
use Rattle.som_image_classes.specs.ReadClasses.{faces_at, parts_at, section_at, head_at, at_end}
use Rattle.som_image_classes.specs.SpelledClasses.{FitsFaces, FitsParts, section, version_with, head}
use Rattle.som_image_classes.proofs.ClassFields.{faces_few, short_ranges, faces_after_field, faces_field, parts_field, beginning, IsVersion, head_field, IsSection, section_field, ends_there}
use Rattle.som_cliimage.specs.declared.wire.WireProgram.{WireProgram}
use Rattle.som_cliimage.specs.declared.form.ClientForm.{ClientForm}
use Rattle.som_cliimage.specs.Forms.{IsAsked, HasForm, any_form, asked_at}
use Rattle.som_cliimage.specs.Reading.{client_ranges, own_faces_at, program_at, image_at, wire_at}
use Rattle.som_cliimage.specs.Spelling.{FitsOwnFaces, FitsMain, ending, bodies, program, FitsProgram, client}
use Rattle.som_image_classes.proofs.NamedSelects.{version_known}
use Rattle.som_cliimage.proofs.AskedNumbers.{asked_takes, asked_again}

-- ---- ranges

abbrev Few : WireFace → Type 0
Few f = length f.entries ≤ MAX_ENTRIES

-- no class of the base or of the client's own has too many entries
pub all_few : (base own : List WireFace) → FitsFaces base → FitsOwnFaces base own → All Few (base ++ own)
all_few base own b o = All-from_recursion Few (base ++ own) (all_joined Few base own (recursion_from_All Few base (faces_few 4 MAX_LIBRARY_CLASSES base b)) (recursion_from_All Few own (faces_few (length base + 4) MAX_CLIENT_CLASSES own o)))

pub ranges_short : (base own : List WireFace) → FitsFaces base → FitsOwnFaces base own → AreShort (client_ranges base own)
ranges_short base own b o = short_ranges (base ++ own) (omega (arith, length-append base own, b.1, o.1)) (all_few base own b o)

pub own_small : (base : List WireFace) → FitsFaces base → length base + 4 + MAX_CLIENT_CLASSES < 2 ^ 16
own_small base fits = omega (arith, fits.1)

-- ---- what follows the head

abbrev spell_faces : List WireFace → List ℕ
spell_faces fs = counted w16 face fs

abbrev a_program : List WireFace → List WireFace → List WirePart → List WireSelects → WireBlock → WireProgram
a_program base own parts selects main = record { base = base; faces = own; parts = parts; selects = selects; main = main }

abbrev FitsPartsHere : List WireFace → List WireFace → List WirePart → Type 0
FitsPartsHere base own = FitsParts (client_ranges base own) own

abbrev after_main : List WireFace → List WireFace → List WirePart → List WireSelects → Read WireBlock → Result (Read WireProgram) ImageFault
after_main base own parts selects m = done (a_program base own parts selects m.value) m.next

abbrev after_statements : List WireFace → List WireFace → List WirePart → List ℕ → Read (List WireSelects) → Unit {0} → Result (Read WireProgram) ImageFault
after_statements base own parts bytes ss u = block_at (levels_left 1) (client_ranges base own) bytes ss.next >>= after_main base own parts ss.value

-- a block is spelled with the number of its statements first
block_counted : (b : WireBlock) → block b ≡ counted w32 stmt b.statements
block_counted b = block_is b.statements

-- the numbers of a program are those that a form asks for
abbrev pub WireHasForm : ClientForm → WireProgram → Type 0
WireHasForm form w = HasForm form (length w.base) (length w.main.statements)

module _ (form : ClientForm) (version : ℕ) (least : 1 ≤ version) (most : version ≤ 2) where
  -- a program in an image of this version and form
  abbrev pub FitsAt : WireProgram → Type 0
  FitsAt w = FitsProgram w × (version_with w.selects ≡ version) × WireHasForm form w

  abbrev after_selects : List WireFace → List WireFace → List WirePart → List ℕ → Read (List WireSelects) → Result (Read WireProgram) ImageFault
  after_selects base own parts bytes ss = asked_at w32 form.statements bytes ss.next >>= after_statements base own parts bytes ss

  abbrev after_parts : List WireFace → List WireFace → List ℕ → Read (List WirePart) → Result (Read WireProgram) ImageFault
  after_parts base own bytes ps = section_at version (client_ranges base own) (length base + 4) bytes ps.next >>= after_selects base own ps.value bytes

  abbrev after_own : List WireFace → List ℕ → Read (List WireFace) → Result (Read WireProgram) ImageFault
  after_own base bytes own = parts_at (client_ranges base own.value) own.value bytes own.next >>= after_parts base own.value bytes

  abbrev after_base : List ℕ → Read (List WireFace) → Result (Read WireProgram) ImageFault
  after_base bytes base = own_faces_at base.value bytes base.next >>= after_own base.value bytes

  abbrev after_classes : List ℕ → ℕ → Unit {0} → Result (Read WireProgram) ImageFault
  after_classes bytes place u = faces_at bytes place >>= after_base bytes

  program_takes : (bytes : List ℕ) → AreBytes bytes → (place : ℕ) (r : Read WireProgram) → place ≤ length bytes → program_at form version bytes place ≡ Ok r → Stands bytes place (program r.value) r.next × FitsAt r.value
  unfolding program_at
  program_takes bytes all place r le e =
      let c = bind_ok (asked_at w16 form.base_classes bytes place) (after_classes bytes place) r e in
      let b = took faces_at spell_faces FitsFaces faces_field bytes all place le (after_base bytes) r c.2 in
      let base : List WireFace = b.0.value in
      let o = took (own_faces_at base) spell_faces (FitsOwnFaces base) (faces_after_field (length base + 4) MAX_CLIENT_CLASSES (own_small base b.2)) bytes all b.0.next b.1.within (after_own base bytes) r b.3 in
      let own : List WireFace = o.0.value in
      let ranges : Ranges = client_ranges base own in
      let short = ranges_short base own b.2 o.2 in
      let p = took (parts_at ranges own) (flat_map part) (FitsPartsHere base own) (parts_field ranges short own) bytes all o.0.next o.1.within (after_parts base own bytes) r o.3 in
      let s = took (section_at version ranges (length base + 4)) section (IsSection version ranges (length base + 4)) (section_field ranges short (length base + 4) version least most) bytes all p.0.next p.1.within (after_selects base own p.0.value bytes) r p.3 in
      let q = bind_ok (asked_at w32 form.statements bytes s.0.next) (after_statements base own p.0.value bytes s.0) r s.3 in
      let m = took (block_at (levels_left 1) ranges) block (FitsMain ranges) (block_field ranges short (levels_left 1)) bytes all s.0.next s.1.within (after_main base own p.0.value s.0.value) r q.2 in
      let main : WireBlock = m.0.value in
      let counted_main : Stands bytes s.0.next (counted w32 stmt main.statements) m.0.next = subst (λ (t : List ℕ). Stands bytes s.0.next t m.0.next) (block_counted main) m.1 in
      let is_base : IsAsked form.base_classes (length base) = asked_takes w16 (2 ^ 16) short_field form.base_classes bytes place c.0 (length base) (flat_map face base) b.0.next (omega (arith, b.2.1)) b.1 c.1 in
      let is_main : IsAsked form.statements (length main.statements) = asked_takes w32 (2 ^ 32) long_field form.statements bytes s.0.next q.0 (length main.statements) (flat_map stmt main.statements) m.0.next m.2.0 counted_main q.1 in
      let s0 = Stands-join bytes p.0.next (section s.0.value) s.0.next (block m.0.value) m.0.next s.1 m.1 in
      let s1 = Stands-join bytes o.0.next (flat_map part p.0.value) p.0.next (section s.0.value ++ block m.0.value) m.0.next p.1 s0 in
      let s2 = Stands-join bytes b.0.next (spell_faces own) o.0.next (flat_map part p.0.value ++ (section s.0.value ++ block m.0.value)) m.0.next o.1 s1 in
      let s3 = Stands-join bytes place (spell_faces base) b.0.next (spell_faces own ++ (flat_map part p.0.value ++ (section s.0.value ++ block m.0.value))) m.0.next b.1 s2 in
      came program FitsAt bytes place (a_program base own p.0.value s.0.value m.0.value) m.0.next r m.3 s3 (record { base = b.2; faces = o.2; parts = p.2; selects = s.2.0; main = m.2 }, s.2.1, record { base = is_base; main = is_main })

  program_again : (bytes : List ℕ) (place : ℕ) (v : WireProgram) (next : ℕ) → Stands bytes place (program v) next → FitsAt v → program_at form version bytes place ≡ done v next
  unfolding program_at
  program_again bytes place v next h at =
      let fits = at.0 in
      let ranges : Ranges = client_ranges v.base v.faces in
      let short = ranges_short v.base v.faces fits.base fits.faces in
      let others : List ℕ = spell_faces v.faces ++ bodies v in
      let b = went faces_at spell_faces FitsFaces faces_field bytes place v.base others next h fits.base in
      let counted_base : Stands bytes place (number w16 (length v.base) ++ (flat_map face v.base ++ others)) next = subst (λ (t : List ℕ). Stands bytes place t next) (append_assoc (number w16 (length v.base)) (flat_map face v.base) others) h in
      let c = asked_again w16 (2 ^ 16) short_field form.base_classes bytes place (length v.base) (flat_map face v.base ++ others) next (omega (arith, fits.base.1)) counted_base at.2.base in
      let p1 : ℕ = place + length (spell_faces v.base) in
      let o = went (own_faces_at v.base) spell_faces (FitsOwnFaces v.base) (faces_after_field (length v.base + 4) MAX_CLIENT_CLASSES (own_small v.base fits.base)) bytes p1 v.faces (bodies v) next b.1 fits.faces in
      let p2 : ℕ = p1 + length (spell_faces v.faces) in
      let p = went (parts_at ranges v.faces) (flat_map part) (FitsPartsHere v.base v.faces) (parts_field ranges short v.faces) bytes p2 v.parts (ending v) next o.1 fits.parts in
      let p3 : ℕ = p2 + length (flat_map part v.parts) in
      let s = went (section_at version ranges (length v.base + 4)) section (IsSection version ranges (length v.base + 4)) (section_field ranges short (length v.base + 4) version least most) bytes p3 v.selects (block v.main) next p.1 (fits.selects, at.1) in
      let p4 : ℕ = p3 + length (section v.selects) in
      let counted_main : Stands bytes p4 (counted w32 stmt v.main.statements) next = subst (λ (t : List ℕ). Stands bytes p4 t next) (block_counted v.main) s.1 in
      let q = asked_again w32 (2 ^ 32) long_field form.statements bytes p4 (length v.main.statements) (flat_map stmt v.main.statements) next fits.main.0 counted_main at.2.main in
      let m = (block_field ranges short (levels_left 1)).again bytes p4 v.main next s.1 fits.main in
      rw (c, b.0, o.0, p.0, s.0, q, m) refl

  pub program_field : IsField (program_at form version) program FitsAt
  program_field = record { takes = program_takes; again = program_again }

-- ---- whole images

abbrev somc : List ℕ
somc = codes "SOMC"

abbrev answered : WireProgram → Result WireProgram ImageFault
answered w = Ok w

ok_same : (x y : WireProgram) → answered x ≡ answered y → x ≡ y
ok_same x y e = cc

-- bytes in which a text stands from a place on, with nothing left, go on with that text
rest_is : (bytes : List ℕ) (place : ℕ) (t : List ℕ) (next : ℕ) → Stands bytes place t next → nat_lt next (length bytes) ≡ false → drop place bytes ≡ t
rest_is bytes place t next h e =
    let end : length bytes ≡ next = omega (arith, h.within, ltb-false next (length bytes) e) in
    h.parts ∙ ap (λ (n : ℕ). t ++ drop n bytes) (sym end) ∙ ap (λ (l : List ℕ). t ++ l) (drop-length bytes) ∙ append-nil t

rest_stands : (bytes : List ℕ) (place : ℕ) (t : List ℕ) → place ≤ length bytes → drop place bytes ≡ t → Stands bytes place t (length bytes)
rest_stands bytes place t le e = record {
  parts = e ∙ sym (append-nil t) ∙ ap (λ (l : List ℕ). t ++ l) (sym (drop-length bytes));
  moves = omega (arith, le, length-drop place bytes, ap (length {A = ℕ}) e);
  within = omega arith;
}

-- a program that came out
image_came : (form : ClientForm) (rest : List ℕ) (version : ℕ) (w x : WireProgram) → rest ≡ head somc version ++ program w → FitsProgram w → version_with w.selects ≡ version → WireHasForm form w → answered w ≡ Ok x → (rest ≡ client x) × FitsProgram x × WireHasForm form x
image_came form rest version w x is fits known has e =
    subst (λ (y : WireProgram). (rest ≡ client y) × FitsProgram y × WireHasForm form y) (ok_same w x e)
    (is ∙ ap (λ (n : ℕ). head somc n ++ program w) (sym known), fits, has)

-- what is read from a place on is spelled so
pub image_takes : (form : ClientForm) (bytes : List ℕ) → AreBytes bytes → (place : ℕ) → place ≤ length bytes → (w : WireProgram) → image_at form bytes place ≡ Ok w → (drop place bytes ≡ client w) × FitsProgram w × WireHasForm form w
unfolding image_at
image_takes form bytes all place le w e =
    let v = took (head_at somc 2) (beginning somc 2) (IsVersion somc 2) (head_field somc 2 (omega arith)) bytes all place le (λ version. program_at form version.value bytes version.next >>= at_end bytes) w e in
    let version : ℕ = v.0.value in
    let c = took (program_at form version) program (FitsAt form version v.2.0 v.2.1) (program_field form version v.2.0 v.2.1) bytes all v.0.next v.1.within (at_end bytes) w v.3 in
    let g = guard_no (nat_lt c.0.next (length bytes)) (faults.Trailing c.0.next) (Ok c.0.value) w c.3 in
    let both = Stands-join bytes place (head somc version) v.0.next (program c.0.value) c.0.next v.1 c.1 in
    let is : drop place bytes ≡ head somc version ++ program c.0.value = rest_is bytes place (head somc version ++ program c.0.value) c.0.next both g.0 in
    image_came form (drop place bytes) version c.0.value w is c.2.0 c.2.1 c.2.2 g.1

-- what is spelled so is read
pub image_again : (form : ClientForm) (bytes : List ℕ) (place : ℕ) (w : WireProgram) → place ≤ length bytes → drop place bytes ≡ client w → FitsProgram w → WireHasForm form w → image_at form bytes place ≡ Ok w
unfolding image_at
image_again form bytes place w le e fits has =
    let version : ℕ = version_with w.selects in
    let known = version_known w.selects in
    let h = went (head_at somc 2) (beginning somc 2) (IsVersion somc 2) (head_field somc 2 (omega arith)) bytes place version (program w) (length bytes) (rest_stands bytes place (client w) le e) known in
    let c = (program_field form version known.0 known.1).again bytes (place + length (head somc version)) w (length bytes) h.1 (fits, refl, has) in
    rw (h.0, c, ends_there (length bytes)) refl

-- ---- images in files of their own

pub any_has : (w : WireProgram) → WireHasForm any_form w
any_has w = record { base = tt; main = tt }

pub wire_takes : (bytes : List ℕ) → AreBytes bytes → (w : WireProgram) → wire_at bytes ≡ Ok w → (bytes ≡ client w) × FitsProgram w
wire_takes bytes all w e = let t = image_takes any_form bytes all 0 (omega arith) w e in (t.0, t.1)

pub wire_again : (w : WireProgram) → FitsProgram w → wire_at (client w) ≡ Ok w
wire_again w fits = image_again any_form (client w) 0 w (omega arith) refl fits (any_has w)
