-- Where the bytes of libraries and clients stop.
use Rattle.std.proofs.Common.{◌≡◌, ℕ, ◌+◌, ◌<◌, ◌≤◌, List, ◌++◌, length, take, Option, Some, Result, Ok, Err, inl, inr, refl, sym, ap, ◌∙◌, subst, arith}
use Rattle.std.proofs.lemmas.Bool.{cases_lt}
use Rattle.std.proofs.lemmas.List.{get_or-take, get_or_past, length-take}
use Rattle.std.specs.Prelude.{codes}
use Rattle.som_model.specs.declared.program.ClientProgram.{ClientProgram}
use Rattle.som_model.specs.declared.program.Release.{Release}
use Rattle.som_model.specs.Bytes.{AreBytes}
use Rattle.som_model.specs.Steps.{◌>>=◌}
use Rattle.som_image_fields.specs.declared.fault.ImageFault.{ImageFault}
use Rattle.som_image_fields.specs.declared.fault.ImageFault.TheVariants as faults
use Rattle.som_image_fields.specs.declared.read.Read.{Read}
use Rattle.som_image_fields.specs.declared.face.WireFace.{WireFace}
use Rattle.som_image_fields.specs.declared.syntax.WireBlock.{WireBlock}
use Rattle.som_image_fields.specs.declared.syntax.WirePart.{WirePart}
use Rattle.som_image_fields.specs.declared.selects.WireSelects.{WireSelects}
use Rattle.som_image_fields.specs.Fields.{done}
use Rattle.som_image_fields.specs.Fitting.{levels_left}
use Rattle.som_model.specs.declared.limits.TheConstants.{MAX_CLIENT_CLASSES, MAX_LIBRARY_CLASSES}
use Rattle.som_wire.specs.Reading.{block_at}
use Rattle.som_image_classes.specs.ReadClasses.{at_end, faces_at, head_at, parts_at, ranges_of, section_at}
use Rattle.som_libimage.specs.declared.wire.WireRelease.{WireRelease}
use Rattle.som_libimage.specs.Libraries.{SpellsLibrary, library_at}
use Rattle.som_libimage.specs.Naming.{release_named}
use Rattle.som_libimage.specs.Reading as library
use Rattle.som_libimage.proofs.Decoded as library_laws
use Rattle.som_cliimage.specs.declared.wire.WireProgram.{WireProgram}
use Rattle.som_cliimage.specs.Naming.{program_named}
use Rattle.som_cliimage.specs.Programs.{SpellsProgram, client_at}
use Rattle.som_cliimage.specs.Forms.{any_form}
use Rattle.som_cliimage.specs.Reading.{client_ranges, own_faces_at, program_at}
use Rattle.som_cliimage.specs.Reading as client
use Rattle.som_cliimage.proofs.Decoded as client_laws
use Rattle.som_image_fault_laws.specs.Stopping.{StopsAt, field_of}
use Rattle.som_image_fault_laws.proofs.Local.{IsLocal, IsLocalField, after_field, bind_local, of_one_field}
use Rattle.som_image_fault_laws.proofs.Syntax.{block_field}
use Rattle.som_image_fault_laws.proofs.Classes.{faces_field, head_local, parts_field, section_field}
use Rattle.som_image_fault_laws.proofs.Stopping.{cut_there, goes_on, stops, told}

pub four_some : 0 < 4
four_some = omega arith

pub four_few : 4 ≤ 4
four_few = omega arith

-- two steps, and a third
pub steps : {A B C : Type 0} (r : Result A ImageFault) (f : A → Result B ImageFault) (g : B → Result C ImageFault) → (r >>= λ x. f x >>= g) ≡ ((r >>= f) >>= g)
steps (Ok x) f g = refl
steps (Err e) f g = refl

-- ---- libraries

abbrev release_behind : ℕ → List WireFace → List WirePart → ℕ → List ℕ → Result (Read WireRelease) ImageFault
release_behind version fs ps place bytes = section_at version (ranges_of fs) 4 bytes place >>= λ ss. done (record { faces = fs; parts = ps; selects = ss.value }) ss.next

classes_field : (version : ℕ) → IsLocalField (library.classes_at version)
unfolding library.classes_at
classes_field version from place le =
    after_field faces_at (λ fs bytes. parts_at (ranges_of fs.value) fs.value bytes fs.next >>= λ ps. release_behind version fs.value ps.value ps.next bytes) from place (faces_field 4 MAX_LIBRARY_CLASSES) le (λ fs p1.
    let l1 : from ≤ fs.next = omega (arith, le, p1) in
    after_field (parts_at (ranges_of fs.value) fs.value) (λ ps bytes. release_behind version fs.value ps.value ps.next bytes) from fs.next (parts_field (ranges_of fs.value) fs.value) l1 (λ ps p2.
    of_one_field (section_at version (ranges_of fs.value) 4) (λ (ss : List WireSelects). let w : WireRelease = record { faces = fs.value; parts = ps.value; selects = ss } in w) (section_field version (ranges_of fs.value) 4) from ps.next
    (omega (arith, l1, p2))))

abbrev library_read : List ℕ → Result (Read WireRelease) ImageFault
library_read bytes = head_at (codes "SOML") 2 bytes 0 >>= λ version. library.classes_at version.value bytes version.next

library_local : IsLocal library_read 0 0
library_local =
    bind_local (λ bytes. head_at (codes "SOML") 2 bytes 0) (λ version bytes. library.classes_at version.value bytes version.next) 0 0 (head_local (codes "SOML") four_some four_few 2)
    (λ version bytes past is. classes_field version.value 0 version.next (omega arith))

library_is : (bytes : List ℕ) → library_at bytes ≡ told library_read library_local release_named bytes
unfolding library.wire_at
library_is bytes =
    ap (λ (z : Result WireRelease ImageFault). z >>= λ w. Ok (release_named w))
    (steps (head_at (codes "SOML") 2 bytes 0) (λ version. library.classes_at version.value bytes version.next) (at_end bytes))

-- what is told is told by any reading that is the same
pub over : {B : Type 0} (f g : List ℕ → Result B ImageFault) (Spells : B → List ℕ → Type 0) (x : ImageFault) (bytes : List ℕ) (p : ℕ) → ((b : List ℕ) → f b ≡ g b) → StopsAt g Spells x bytes p → StopsAt f Spells x bytes p
over f g Spells x bytes p same s = record { ends = s.ends; past = s.past; near = s.near; within = s.within; stays = λ more. same (take s.ends bytes ++ more) ∙ s.stays more; dead = s.dead; before = λ n le. same (take n bytes) ∙ s.before n le }

pub bytes_front : (p : ℕ) (bytes : List ℕ) → AreBytes bytes → AreBytes (take p bytes)
bytes_front p bytes all i = elim (cases_lt i p) [
  | inl lt ↦ rw (get_or-take p bytes i 0 lt) (all i)
  | inr le ↦ rw (get_or_past (take p bytes) i 0 (omega (arith, length-take p bytes))) (omega arith)
]

pub library_stops : (bytes : List ℕ) (f : ImageFault) (p : ℕ) → library_at bytes ≡ Err f → field_of f ≡ Some p → StopsAt library_at SpellsLibrary f bytes p
library_stops bytes f p e at =
    over library_at (told library_read library_local release_named) SpellsLibrary f bytes p library_is
    (stops library_read library_local release_named SpellsLibrary (λ b x s. sym (library_is b) ∙ library_laws.spelled_again b x s) bytes f p (sym (library_is bytes) ∙ e) at)

pub library_cut : (bytes : List ℕ) (p : ℕ) → library_at bytes ≡ Err (faults.Cut p) → p ≡ length bytes
library_cut bytes p e = cut_there library_read library_local release_named bytes p (sym (library_is bytes) ∙ e)

pub library_goes_on : (bytes : List ℕ) (p : ℕ) → AreBytes bytes → library_at bytes ≡ Err (faults.Trailing p) → (p < length bytes) × (r : Release) × SpellsLibrary r (take p bytes)
library_goes_on bytes p all e =
    let r = goes_on library_read library_local release_named bytes p (sym (library_is bytes) ∙ e) in
    (r.0, r.1, library_laws.spelled (take p bytes) (bytes_front p bytes all) (Ok r.1) (library_is (take p bytes) ∙ r.2))

-- ---- clients

abbrev main_behind : List WireFace → List WireFace → List WirePart → List WireSelects → ℕ → List ℕ → Result (Read WireProgram) ImageFault
main_behind base own ps ss place bytes = block_at (levels_left 1) (client_ranges base own) bytes place >>= λ main. done (record { base = base; faces = own; parts = ps; selects = ss; main = main.value }) main.next

abbrev selects_behind : ℕ → List WireFace → List WireFace → List WirePart → ℕ → List ℕ → Result (Read WireProgram) ImageFault
selects_behind version base own ps place bytes = section_at version (client_ranges base own) (length base + 4) bytes place >>= λ ss. main_behind base own ps ss.value ss.next bytes

abbrev parts_behind : ℕ → List WireFace → List WireFace → ℕ → List ℕ → Result (Read WireProgram) ImageFault
parts_behind version base own place bytes = parts_at (client_ranges base own) own bytes place >>= λ ps. selects_behind version base own ps.value ps.next bytes

program_field : (version : ℕ) → IsLocalField (program_at any_form version)
unfolding program_at
program_field version from place le =
    after_field faces_at (λ base bytes. own_faces_at base.value bytes base.next >>= λ own. parts_behind version base.value own.value own.next bytes) from place (faces_field 4 MAX_LIBRARY_CLASSES) le (λ base p1.
    let l1 : from ≤ base.next = omega (arith, le, p1) in
    after_field (own_faces_at base.value) (λ own bytes. parts_behind version base.value own.value own.next bytes) from base.next (faces_field (length base.value + 4) MAX_CLIENT_CLASSES) l1 (λ own p2.
    let l2 : from ≤ own.next = omega (arith, l1, p2) in
    let ranges = client_ranges base.value own.value in
    after_field (parts_at ranges own.value) (λ ps bytes. selects_behind version base.value own.value ps.value ps.next bytes) from own.next (parts_field ranges own.value) l2 (λ ps p3.
    let l3 : from ≤ ps.next = omega (arith, l2, p3) in
    after_field (section_at version ranges (length base.value + 4)) (λ ss bytes. main_behind base.value own.value ps.value ss.value ss.next bytes) from ps.next (section_field version ranges (length base.value + 4)) l3 (λ ss p4.
    of_one_field (block_at (levels_left 1) ranges) (λ (b : WireBlock). let w : WireProgram = record { base = base.value; faces = own.value; parts = ps.value; selects = ss.value; main = b } in w) (block_field (levels_left 1) ranges) from ss.next
    (omega (arith, l3, p4))))))

abbrev client_read : List ℕ → Result (Read WireProgram) ImageFault
client_read bytes = head_at (codes "SOMC") 2 bytes 0 >>= λ version. program_at any_form version.value bytes version.next

client_local : IsLocal client_read 0 0
client_local =
    bind_local (λ bytes. head_at (codes "SOMC") 2 bytes 0) (λ version bytes. program_at any_form version.value bytes version.next) 0 0 (head_local (codes "SOMC") four_some four_few 2)
    (λ version bytes past is. program_field version.value 0 version.next (omega arith))

client_is : (bytes : List ℕ) → client_at bytes ≡ told client_read client_local program_named bytes
unfolding client.image_at
client_is bytes =
    ap (λ (z : Result WireProgram ImageFault). z >>= λ w. Ok (program_named w))
    (steps (head_at (codes "SOMC") 2 bytes 0) (λ version. program_at any_form version.value bytes version.next) (at_end bytes))

pub client_stops : (bytes : List ℕ) (f : ImageFault) (p : ℕ) → client_at bytes ≡ Err f → field_of f ≡ Some p → StopsAt client_at SpellsProgram f bytes p
client_stops bytes f p e at =
    over client_at (told client_read client_local program_named) SpellsProgram f bytes p client_is
    (stops client_read client_local program_named SpellsProgram (λ b x s. sym (client_is b) ∙ client_laws.spelled_again b x s) bytes f p (sym (client_is bytes) ∙ e) at)

pub client_cut : (bytes : List ℕ) (p : ℕ) → client_at bytes ≡ Err (faults.Cut p) → p ≡ length bytes
client_cut bytes p e = cut_there client_read client_local program_named bytes p (sym (client_is bytes) ∙ e)

pub client_goes_on : (bytes : List ℕ) (p : ℕ) → AreBytes bytes → client_at bytes ≡ Err (faults.Trailing p) → (p < length bytes) × (x : ClientProgram) × SpellsProgram x (take p bytes)
client_goes_on bytes p all e =
    let r = goes_on client_read client_local program_named bytes p (sym (client_is bytes) ∙ e) in
    (r.0, r.1, client_laws.spelled (take p bytes) (bytes_front p bytes all) (Ok r.1) (client_is (take p bytes) ∙ r.2))
