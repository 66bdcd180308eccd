-- Reading never comes to want of memory.
use Rattle.std.proofs.Common.{◌≡◌, ℕ, ◌+◌, ◌==◌, ◌&&◌, nat_lt, nat_le, nat_eq, List, [], ◌∷◌, length, drop, Option, Some, None, Result, Err, subst}
use Rattle.std.specs.Prelude.{codes}
use Rattle.std.specs.List.{starts_with}
use Rattle.std.specs.Int.{Width, w8, w16, w32}
use Rattle.som_model.specs.declared.limits.TheConstants.{MAX_CLIENT_CLASSES, MAX_LIBRARY_CLASSES}
use Rattle.som_model.specs.declared.program.Release.{Release}
use Rattle.som_model.specs.declared.program.ClientProgram.{ClientProgram}
use Rattle.som_image_fields.specs.declared.fault.ImageFault.{ImageFault}
use Rattle.som_image_fields.specs.declared.read.Read.{Read}
use Rattle.som_image_fields.specs.Fields.{many_at}
use Rattle.som_image_fields.specs.Reading.{number_at, face_at}
use Rattle.som_image_fields.specs.declared.face.WireFace.{WireFace}
use Rattle.som_image_fields.specs.declared.method.Ranges.{Ranges}
use Rattle.som_image_fields.specs.Fitting.{levels_left}
use Rattle.som_wire.specs.Reading.{block_at, part_at, selects_at}
use Rattle.som_image_classes.specs.ReadClasses.{each_at, faces_after_at, faces_at, parts_at, magic_at, head_at, section_at, ranges_of, introduced_count}
use Rattle.som_libimage.specs.Reading.{classes_at, wire_at}
use Rattle.som_libimage.specs.Libraries.{library_at}
use Rattle.som_cliimage.specs.declared.form.ClientForm.{ClientForm}
use Rattle.som_cliimage.specs.Forms.{any_form, asked_at}
use Rattle.som_cliimage.specs.Reading.{client_ranges, own_faces_at, program_at, image_at, wire_at as client_wire_at}
use Rattle.som_cliimage.specs.Programs.{client_at}
use Rattle.som_image_fields.specs.declared.fault.ImageFault.TheVariants as faults
use Rattle.som_cmd_steps.proofs.FieldFaults.{Reads, then_reads, either_reads, number_reads, many_reads, face_reads}
use Rattle.som_cmd_steps.proofs.BlockFaults.{block_reads, part_reads}
use Rattle.som_cmd_steps.proofs.SelectFaults.{selects_read}

-- ---- images

each_reads : {A B : Type 0} (one : A → ℕ → Result (Read B) ImageFault) → ((x : A) (place : ℕ) → Reads (one x place)) → (xs : List A) (place : ℕ) → Reads (each_at one xs place)
unfolding each_at
each_reads one h [] place = tt
each_reads one h (x ∷ xs) place = then_reads (one x place) _ (h x place) (λ first. then_reads (each_at one xs first.next) _ (each_reads one h xs first.next) (λ others. tt))

faces_after_read : (before most : ℕ) (bytes : List ℕ) (place : ℕ) → Reads (faces_after_at before most bytes place)
unfolding faces_after_at
faces_after_read before most bytes place = then_reads (number_at w16 bytes place) _ (number_reads w16 bytes place) (λ count.
    either_reads (nat_lt most count.value) _ (many_at (face_at (count.value + before) bytes) count.value count.next) tt
    (many_reads (face_at (count.value + before) bytes) (face_reads (count.value + before) bytes) count.value count.next))

faces_reads : (bytes : List ℕ) (place : ℕ) → Reads (faces_at bytes place)
faces_reads = faces_after_read 4 MAX_LIBRARY_CLASSES

parts_read : (ranges : Ranges) (faces : List WireFace) (bytes : List ℕ) (place : ℕ) → Reads (parts_at ranges faces bytes place)
parts_read ranges faces bytes place = each_reads (λ face. part_at ranges (introduced_count face) bytes) (λ face. part_reads ranges (introduced_count face) bytes) faces place

section_reads : (version : ℕ) (ranges : Ranges) (first : ℕ) (bytes : List ℕ) (place : ℕ) → Reads (section_at version ranges first bytes place)
section_reads version ranges first bytes place = either_reads (version == 2) (selects_at ranges first bytes place) _ (selects_read ranges first bytes place) tt

classes_reads : (version : ℕ) (bytes : List ℕ) (place : ℕ) → Reads (classes_at version bytes place)
unfolding classes_at
classes_reads version bytes place = then_reads (faces_at bytes place) _ (faces_reads bytes place) (λ faces.
    then_reads (parts_at (ranges_of faces.value) faces.value bytes faces.next) _ (parts_read (ranges_of faces.value) faces.value bytes faces.next) (λ parts.
    then_reads (section_at version (ranges_of faces.value) 4 bytes parts.next) _ (section_reads version (ranges_of faces.value) 4 bytes parts.next) (λ selects. tt)))

magic_reads : (magic bytes : List ℕ) (place : ℕ) → Reads (magic_at magic bytes place)
magic_reads magic bytes place = either_reads (starts_with nat_eq (drop place bytes) magic) _ _ tt (either_reads (starts_with nat_eq magic (drop place bytes)) _ _ tt tt)

pub head_reads : (magic : List ℕ) (newest : ℕ) (bytes : List ℕ) (place : ℕ) → Reads (head_at magic newest bytes place)
unfolding head_at
head_reads magic newest bytes place = then_reads (magic_at magic bytes place) _ (magic_reads magic bytes place) (λ start. then_reads (number_at w8 bytes start) _ (number_reads w8 bytes start) (λ version. either_reads (nat_le 1 version.value && nat_le version.value newest) _ _ tt tt))

wire_reads : (bytes : List ℕ) → Reads (wire_at bytes)
unfolding wire_at
wire_reads bytes = then_reads (head_at (codes "SOML") 2 bytes 0) _ (head_reads (codes "SOML") 2 bytes 0) (λ version. then_reads (classes_at version.value bytes version.next) _ (classes_reads version.value bytes version.next) (λ release. either_reads (nat_lt release.next (length bytes)) _ _ tt tt))

pub library_reads : (bytes : List ℕ) → Reads (library_at bytes)
library_reads bytes = then_reads (wire_at bytes) _ (wire_reads bytes) (λ w. tt)

-- so a library image's fault is one of its bytes
pub no_want : (bytes : List ℕ) → library_at bytes ≡ Err faults.NoMemory → ⊥
no_want bytes e = let P : Result Release ImageFault → Type 0 = λ r. Reads r in subst P e (library_reads bytes)

-- ---- client images

-- a number that is asked for
asked_reads : (w : Width) (asked : Option ℕ) (bytes : List ℕ) (place : ℕ) → Reads (asked_at w asked bytes place)
asked_reads w None bytes place = tt
asked_reads w (Some n) bytes place = then_reads (number_at w bytes place) _ (number_reads w bytes place) (λ count. either_reads (count.value == n) _ _ tt tt)

program_reads : (form : ClientForm) (version : ℕ) (bytes : List ℕ) (place : ℕ) → Reads (program_at form version bytes place)
unfolding program_at
program_reads form version bytes place = then_reads (asked_at w16 form.base_classes bytes place) _ (asked_reads w16 form.base_classes bytes place) (λ classes.
    then_reads (faces_at bytes place) _ (faces_reads bytes place) (λ base.
    then_reads (own_faces_at base.value bytes base.next) _ (faces_after_read (length base.value + 4) MAX_CLIENT_CLASSES bytes base.next) (λ own.
    then_reads (parts_at (client_ranges base.value own.value) own.value bytes own.next) _ (parts_read (client_ranges base.value own.value) own.value bytes own.next) (λ parts.
    then_reads (section_at version (client_ranges base.value own.value) (length base.value + 4) bytes parts.next) _ (section_reads version (client_ranges base.value own.value) (length base.value + 4) bytes parts.next) (λ selects.
    then_reads (asked_at w32 form.statements bytes selects.next) _ (asked_reads w32 form.statements bytes selects.next) (λ statements.
    then_reads (block_at (levels_left 1) (client_ranges base.value own.value) bytes selects.next) _ (block_reads (levels_left 1) (client_ranges base.value own.value) bytes selects.next) (λ main. tt)))))))

-- also one that stands after other bytes, of any form
pub image_reads : (form : ClientForm) (bytes : List ℕ) (place : ℕ) → Reads (image_at form bytes place)
unfolding image_at
image_reads form bytes place = then_reads (head_at (codes "SOMC") 2 bytes place) _ (head_reads (codes "SOMC") 2 bytes place) (λ version.
    then_reads (program_at form version.value bytes version.next) _ (program_reads form version.value bytes version.next) (λ program. either_reads (nat_lt program.next (length bytes)) _ _ tt tt))

client_reads : (bytes : List ℕ) → Reads (client_at bytes)
client_reads bytes = then_reads (client_wire_at bytes) _ (image_reads any_form bytes 0) (λ w. tt)

-- so a client image's fault is one of its bytes
pub no_client_want : (bytes : List ℕ) → client_at bytes ≡ Err faults.NoMemory → ⊥
no_client_want bytes e = let P : Result ClientProgram ImageFault → Type 0 = λ r. Reads r in subst P e (client_reads bytes)
