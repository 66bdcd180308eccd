-- A program that is read with names is the one that what is read with numbers stands for.
use Rattle.std.proofs.Common.{◌≡◌, ℕ, ◌+◌, ◌≤◌, List, length, map, Result, Ok, sym, ap, subst, ◌∙◌}
use Rattle.std.specs.Prelude.{nat_lt, codes}
use Rattle.std.proofs.lemmas.Bool.{le-ltb}
use Rattle.std.specs.Int.{w16, w32}
use Rattle.som_model.specs.Steps.{◌>>=◌}
use Rattle.som_model.specs.declared.syntax.Block.{Block}
use Rattle.som_model.specs.declared.class.ClassDecl.{ClassDecl}
use Rattle.som_model.specs.declared.program.ClientProgram.{ClientProgram}
use Rattle.som_image_fields.specs.declared.fault.ImageFault.{ImageFault}
use Rattle.som_image_fields.specs.declared.fault.ImageFault.TheVariants as faults
use Rattle.som_image_fields.specs.declared.read.Read.{Read}
use Rattle.som_image_fields.specs.declared.face.WireFace.{WireFace}
use Rattle.som_image_fields.specs.declared.method.Ranges.{Ranges}
use Rattle.som_image_fields.specs.declared.selects.WireSelects.{WireSelects}
use Rattle.som_image_fields.specs.declared.syntax.WireBlock.{WireBlock}
use Rattle.som_image_fields.specs.declared.syntax.WirePart.{WirePart}
use Rattle.som_image_fields.specs.Fields.{Gives, done}
use Rattle.som_image_fields.specs.Fitting.{levels_left}
use Rattle.som_wire.specs.Reading.{block_at}
use Rattle.som_image_decode.specs.declared.directory.Directory.{Directory}
use Rattle.som_image_decode.specs.NamedBlocks.{block_named}
use Rattle.som_image_bodies.specs.Naming.{naming}
use Rattle.som_image_classes.specs.declared.named_part.NamedPart.{NamedPart}
use Rattle.som_image_classes.specs.NamedClasses.{interface_named, part_named, with_selects}
use Rattle.som_image_classes.specs.ReadClasses.{faces_at, parts_at, section_at, head_at, at_end}
use Rattle.som_image_classes.proofs.NamedSteps.{after_step, after_named, regrouped, tested}
use Rattle.som_image_classes.proofs.NamedReading.{classes_are}
use Rattle.som_cliimage.specs.declared.form.ClientForm.{ClientForm}
use Rattle.som_cliimage.specs.declared.wire.WireProgram.{WireProgram}
use Rattle.som_cliimage.specs.Forms.{asked_at}
use Rattle.som_cliimage.specs.Reading.{client_ranges, own_faces_at, program_at, image_at}
use Rattle.som_cliimage.specs.Naming.{client_directory, program_named}
use Rattle.som_cliimage.specs.NamedReading.{program_of, named_bodies_at, named_image_at}
use Rattle.som_cliimage.specs.Programs.{client_from}

abbrev a_program : List WireFace → List WireFace → List WirePart → List WireSelects → WireBlock → WireProgram
a_program base own parts selects main = record { base = base; faces = own; parts = parts; selects = selects; main = main }

abbrev named : WireProgram → Result ClientProgram ImageFault
named w = Ok (program_named w)

-- what a program with numbers gives where nothing more follows
abbrev finish : List ℕ → Read WireProgram → Result ClientProgram ImageFault
finish bytes r = at_end bytes r >>= named

module _ (form : ClientForm) (version : ℕ) (base own : List WireFace) (bytes : List ℕ) where
  abbrev parts_of : List WirePart → List NamedPart
  parts_of ps = map (part_named (client_directory base own)) ps

  abbrev main_of : WireBlock → Block
  main_of b = block_named (client_directory base own) b

  abbrev program : List WireSelects → WireBlock → List ClassDecl → ClientProgram
  program ss b cs = record { base = interface_named base; classes = with_selects (client_directory base own) (length base + 4) ss cs; main = main_of b }

  same_program : (ps : List WirePart) (ss : List WireSelects) (b : WireBlock) → program_named (a_program base own ps ss b) ≡ program_of base own (parts_of ps) ss (main_of b)
  same_program ps ss b = ap (program ss b) (classes_are (client_directory base own) own ps)

  ended : (ps : List WirePart) (ss : List WireSelects) (b : WireBlock) (next : ℕ) → finish bytes (record { value = a_program base own ps ss b; next = next }) ≡ at_end bytes (record { value = program_of base own (parts_of ps) ss (main_of b); next = next })
  ended ps ss b next = tested (nat_lt next (length bytes)) (faults.Trailing next) (a_program base own ps ss b) program_named (program_of base own (parts_of ps) ss (main_of b)) (same_program ps ss b)

  -- ---- with numbers

  abbrev after_main : List WirePart → List WireSelects → Read WireBlock → Result (Read WireProgram) ImageFault
  after_main ps ss m = done (a_program base own ps ss m.value) m.next

  abbrev after_statements : List WirePart → Read (List WireSelects) → Unit {0} → Result (Read WireProgram) ImageFault
  after_statements ps ss u = block_at (levels_left 1) (client_ranges base own) bytes ss.next >>= after_main ps ss.value

  abbrev after_selects : List WirePart → Read (List WireSelects) → Result (Read WireProgram) ImageFault
  after_selects ps ss = asked_at w32 form.statements bytes ss.next >>= after_statements ps ss

  abbrev after_parts : Read (List WirePart) → Result (Read WireProgram) ImageFault
  after_parts ps = section_at version (client_ranges base own) (length base + 4) bytes ps.next >>= after_selects ps.value

  -- ---- with names

  abbrev named_after_main : List NamedPart → List WireSelects → Read Block → Result ClientProgram ImageFault
  named_after_main ps ss m = at_end bytes (record { value = program_of base own ps ss m.value; next = m.next })

  abbrev named_after_statements : List NamedPart → Read (List WireSelects) → Unit {0} → Result ClientProgram ImageFault
  named_after_statements ps ss u = naming main_of (block_at (levels_left 1) (client_ranges base own) bytes ss.next) >>= named_after_main ps ss.value

  abbrev named_after_selects : List NamedPart → Read (List WireSelects) → Result ClientProgram ImageFault
  named_after_selects ps ss = asked_at w32 form.statements bytes ss.next >>= named_after_statements ps ss

  abbrev named_after_parts : Read (List NamedPart) → Result ClientProgram ImageFault
  named_after_parts ps = section_at version (client_ranges base own) (length base + 4) bytes ps.next >>= named_after_selects ps.value

  main_is : (ps : List WirePart) (ss : Read (List WireSelects)) (u : Unit {0}) → (after_statements ps ss u >>= finish bytes) ≡ named_after_statements (parts_of ps) ss u
  main_is ps ss u =
      after_named main_of (block_at (levels_left 1) (client_ranges base own) bytes ss.next) (after_main ps ss.value) (finish bytes) (named_after_main (parts_of ps) ss.value)
      (λ m. ended ps ss.value m.value m.next)

  bodies_are : (place : ℕ) → ((parts_at (client_ranges base own) own bytes place >>= after_parts) >>= finish bytes) ≡ named_bodies_at form version base own bytes place
  unfolding named_bodies_at
  bodies_are place =
      after_named (map (part_named (client_directory base own))) (parts_at (client_ranges base own) own bytes place) after_parts (finish bytes) named_after_parts
      (λ ps. after_step (section_at version (client_ranges base own) (length base + 4) bytes ps.next) (after_selects ps.value) (finish bytes) (named_after_selects (parts_of ps.value))
      (λ ss. after_step (asked_at w32 form.statements bytes ss.next) (after_statements ps.value ss) (finish bytes) (named_after_statements (parts_of ps.value) ss)
      (main_is ps.value ss)))

-- what the steps after the faces came to
module _ (form : ClientForm) (version : ℕ) (base own : List WireFace) (bytes : List ℕ) (d : Directory) (ranges : Ranges) (made : d ≡ client_directory base own) (known : ranges ≡ client_ranges base own) where
  parts_came : (place : ℕ) (ps : Read (List NamedPart)) → naming (map (part_named d)) (parts_at ranges own bytes place) ≡ Ok ps → naming (map (part_named (client_directory base own))) (parts_at (client_ranges base own) own bytes place) ≡ Ok ps
  parts_came place ps given =
      sym (ap (λ (x : Directory). naming (map (part_named x)) (parts_at ranges own bytes place)) made ∙ ap (λ (r : Ranges). naming (map (part_named (client_directory base own))) (parts_at r own bytes place)) known) ∙ given

  selects_came : (place first : ℕ) (ss : Read (List WireSelects)) → first ≡ length base + 4 → section_at version ranges first bytes place ≡ Ok ss → section_at version (client_ranges base own) (length base + 4) bytes place ≡ Ok ss
  selects_came place first ss number given =
      sym (ap (λ (r : Ranges). section_at version r first bytes place) known ∙ ap (λ (n : ℕ). section_at version (client_ranges base own) n bytes place) number) ∙ given

  main_came : (place : ℕ) (m : Read Block) → naming (block_named d) (block_at (levels_left 1) ranges bytes place) ≡ Ok m → naming (block_named (client_directory base own)) (block_at (levels_left 1) (client_ranges base own) bytes place) ≡ Ok m
  main_came place m given =
      sym (ap (λ (x : Directory). naming (block_named x) (block_at (levels_left 1) ranges bytes place)) made ∙ ap (λ (r : Ranges). naming (block_named (client_directory base own)) (block_at (levels_left 1) r bytes place)) known) ∙ given

  pub bodies_came : (place first : ℕ) (ps : Read (List NamedPart)) (ss : Read (List WireSelects)) (u : Unit {0}) (m : Read Block) (p : ClientProgram) → first ≡ length base + 4
      → naming (map (part_named d)) (parts_at ranges own bytes place) ≡ Ok ps
      → section_at version ranges first bytes ps.next ≡ Ok ss
      → Ok u ≡ asked_at w32 form.statements bytes ss.next
      → naming (block_named d) (block_at (levels_left 1) ranges bytes ss.next) ≡ Ok m
      → length bytes ≤ m.next
      → p ≡ program_of base own ps.value ss.value m.value
      → named_bodies_at form version base own bytes place ≡ Ok p
  unfolding named_bodies_at
  bodies_came place first ps ss u m p number parts selects asked main ends is =
      rw (parts_came place ps parts, selects_came ps.next first ss number selects, sym asked, main_came ss.next m main, le-ltb m.next (length bytes) ends)
      (ap (λ (x : ClientProgram). Ok x) (sym is))

module _ (form : ClientForm) (bytes : List ℕ) (version : ℕ) where
  abbrev after_own : List WireFace → Read (List WireFace) → Result (Read WireProgram) ImageFault
  after_own base own = parts_at (client_ranges base own.value) own.value bytes own.next >>= after_parts form version base own.value bytes

  abbrev after_base : Read (List WireFace) → Result (Read WireProgram) ImageFault
  after_base base = own_faces_at base.value bytes base.next >>= after_own base.value

  abbrev after_classes : ℕ → Unit {0} → Result (Read WireProgram) ImageFault
  after_classes place u = faces_at bytes place >>= after_base

  abbrev named_after_own : List WireFace → Read (List WireFace) → Result ClientProgram ImageFault
  named_after_own base own = named_bodies_at form version base own.value bytes own.next

  abbrev named_after_base : Read (List WireFace) → Result ClientProgram ImageFault
  named_after_base base = own_faces_at base.value bytes base.next >>= named_after_own base.value

  abbrev named_after_classes : ℕ → Unit {0} → Result ClientProgram ImageFault
  named_after_classes place u = faces_at bytes place >>= named_after_base

  program_is : (place : ℕ) → (program_at form version bytes place >>= finish bytes) ≡ (asked_at w16 form.base_classes bytes place >>= named_after_classes place)
  unfolding program_at
  program_is place =
      after_step (asked_at w16 form.base_classes bytes place) (after_classes place) (finish bytes) (named_after_classes place)
      (λ u. after_step (faces_at bytes place) after_base (finish bytes) named_after_base
      (λ base. after_step (own_faces_at base.value bytes base.next) (after_own base.value) (finish bytes) (named_after_own base.value)
      (λ own. bodies_are form version base.value own.value bytes own.next)))

client_is : (form : ClientForm) (bytes : List ℕ) (place : ℕ) → client_from form bytes place ≡ named_image_at form bytes place
unfolding image_at named_image_at
client_is form bytes place =
    after_step (head_at (codes "SOMC") 2 bytes place)
    (λ v. program_at form v.value bytes v.next >>= at_end bytes) named
    (λ v. asked_at w16 form.base_classes bytes v.next >>= named_after_classes form bytes v.value v.next)
    (λ v. regrouped (program_at form v.value bytes v.next) (at_end bytes) named ∙ program_is form bytes v.value v.next)

pub given_by_names : (form : ClientForm) (bytes : List ℕ) (place : ℕ) (result : Result ClientProgram ImageFault) → Gives result (named_image_at form bytes place) → Gives result (client_from form bytes place)
given_by_names form bytes place result given = subst (λ (x : Result ClientProgram ImageFault). Gives result x) (sym (client_is form bytes place)) given
