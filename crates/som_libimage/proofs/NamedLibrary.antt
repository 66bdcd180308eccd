-- A release that is read with names is the one that what is read with numbers stands for.
use Rattle.std.proofs.Common.{◌≡◌, ℕ, List, length, map, Result, Ok, sym, ap, subst, ◌∙◌}
use Rattle.std.specs.Prelude.{nat_lt, codes}
use Rattle.som_model.specs.Steps.{◌>>=◌}
use Rattle.som_model.specs.declared.class.ClassDecl.{ClassDecl}
use Rattle.som_model.specs.declared.program.Release.{Release}
use Rattle.som_image_fields.specs.declared.fault.ImageFault.{ImageFault}
use Rattle.som_image_fields.specs.declared.fault.ImageFault.TheVariants as faults
use Rattle.som_image_fields.specs.declared.read.Read.{Read}
use Rattle.som_image_fields.specs.declared.face.WireFace.{WireFace}
use Rattle.som_image_fields.specs.declared.selects.WireSelects.{WireSelects}
use Rattle.som_image_fields.specs.declared.syntax.WirePart.{WirePart}
use Rattle.som_image_fields.specs.Fields.{Gives, done}
use Rattle.som_image_decode.specs.Naming.{library_directory}
use Rattle.som_image_classes.specs.declared.named_part.NamedPart.{NamedPart}
use Rattle.som_image_classes.specs.NamedClasses.{part_named, with_selects}
use Rattle.som_image_classes.specs.ReadClasses.{ranges_of, faces_at, parts_at, section_at, head_at, at_end}
use Rattle.som_image_classes.proofs.NamedSteps.{after_step, after_named, regrouped, tested}
use Rattle.som_image_classes.proofs.NamedReading.{classes_are}
use Rattle.som_libimage.specs.declared.wire.WireRelease.{WireRelease}
use Rattle.som_libimage.specs.Reading.{classes_at, wire_at}
use Rattle.som_libimage.specs.Naming.{release_named}
use Rattle.som_libimage.specs.NamedReading.{release_of, named_bodies_at, release_at}
use Rattle.som_libimage.specs.Libraries.{library_at}

abbrev a_release : List WireFace → List WirePart → List WireSelects → WireRelease
a_release fs ps ss = record { faces = fs; parts = ps; selects = ss }

abbrev named : WireRelease → Result Release ImageFault
named w = Ok (release_named w)

-- what a release with numbers gives where nothing more follows
abbrev finish : List ℕ → Read WireRelease → Result Release ImageFault
finish bytes r = at_end bytes r >>= named

abbrev names_of : List WireFace → List WirePart → List NamedPart
names_of fs ps = map (part_named (library_directory fs)) ps

abbrev release : List ClassDecl → Release
release cs = record { classes = cs }

same_release : (fs : List WireFace) (ps : List WirePart) (ss : List WireSelects) → release_named (a_release fs ps ss) ≡ release_of fs (names_of fs ps) ss
same_release fs ps ss =
    let d = library_directory fs in
    ap (λ (cs : List ClassDecl). release (with_selects d 4 ss cs)) (classes_are d fs ps)

ended : (bytes : List ℕ) (fs : List WireFace) (ps : List WirePart) (ss : List WireSelects) (next : ℕ) → finish bytes (record { value = a_release fs ps ss; next = next }) ≡ at_end bytes (record { value = release_of fs (names_of fs ps) ss; next = next })
ended bytes fs ps ss next = tested (nat_lt next (length bytes)) (faults.Trailing next) (a_release fs ps ss) release_named (release_of fs (names_of fs ps) ss) (same_release fs ps ss)

module _ (version : ℕ) (fs : List WireFace) (bytes : List ℕ) where
  abbrev after_selects : List WirePart → Read (List WireSelects) → Result (Read WireRelease) ImageFault
  after_selects ps ss = done (a_release fs ps ss.value) ss.next

  abbrev after_parts : Read (List WirePart) → Result (Read WireRelease) ImageFault
  after_parts ps = section_at version (ranges_of fs) 4 bytes ps.next >>= after_selects ps.value

  abbrev named_after_selects : List NamedPart → Read (List WireSelects) → Result Release ImageFault
  named_after_selects ps ss = at_end bytes (record { value = release_of fs ps ss.value; next = ss.next })

  abbrev named_after_parts : Read (List NamedPart) → Result Release ImageFault
  named_after_parts ps = section_at version (ranges_of fs) 4 bytes ps.next >>= named_after_selects ps.value

  bodies_are : (place : ℕ) → ((parts_at (ranges_of fs) fs bytes place >>= after_parts) >>= finish bytes) ≡ named_bodies_at version fs bytes place
  unfolding named_bodies_at
  bodies_are place =
      after_named (map (part_named (library_directory fs))) (parts_at (ranges_of fs) fs bytes place) after_parts (finish bytes) named_after_parts
      (λ ps. after_step (section_at version (ranges_of fs) 4 bytes ps.next) (after_selects ps.value) (finish bytes) (named_after_selects (names_of fs ps.value))
      (λ ss. ended bytes fs ps.value ss.value ss.next))

release_is : (bytes : List ℕ) → library_at bytes ≡ release_at bytes
unfolding wire_at classes_at release_at
release_is bytes =
    after_step (head_at (codes "SOML") 2 bytes 0)
    (λ v. classes_at v.value bytes v.next >>= at_end bytes) named
    (λ v. faces_at bytes v.next >>= λ fs. named_bodies_at v.value fs.value bytes fs.next)
    (λ v. regrouped (classes_at v.value bytes v.next) (at_end bytes) named
    ∙ after_step (faces_at bytes v.next) (λ fs. parts_at (ranges_of fs.value) fs.value bytes fs.next >>= after_parts v.value fs.value bytes) (finish bytes)
    (λ fs. named_bodies_at v.value fs.value bytes fs.next)
    (λ fs. bodies_are v.value fs.value bytes fs.next))

pub given_by_names : (bytes : List ℕ) (result : Result Release ImageFault) → Gives result (release_at bytes) → Gives result (library_at bytes)
given_by_names bytes result given = subst (λ (x : Result Release ImageFault). Gives result x) (sym (release_is bytes)) given
