-- How a client image is read from left to right: each field at its place, and the first fault.
use Rattle.std.specs.Prelude.{ℕ, ◌+◌, List, ◌++◌, length, codes, Result}
use Rattle.std.specs.Int.{w16, w32}
use Rattle.som_model.specs.declared.limits.TheConstants.{MAX_CLIENT_CLASSES}
use Rattle.som_model.specs.Steps.{◌>>=◌}
use Rattle.som_image_fields.specs.declared.fault.ImageFault.{ImageFault}
use Rattle.som_image_fields.specs.declared.read.Read.{Read}
use Rattle.som_image_fields.specs.declared.face.WireFace.{WireFace}
use Rattle.som_image_fields.specs.declared.method.Ranges.{Ranges}
use Rattle.som_image_fields.specs.Fields.{done}
use Rattle.som_image_fields.specs.Fitting.{levels_left}
use Rattle.som_wire.specs.Reading.{block_at}
use Rattle.som_image_classes.specs.ReadClasses.{ranges_of, faces_after_at, faces_at, parts_at, section_at, head_at, at_end}
use Rattle.som_cliimage.specs.declared.form.ClientForm.{ClientForm}
use Rattle.som_cliimage.specs.Forms.{any_form, asked_at}
use Rattle.som_cliimage.specs.declared.wire.WireProgram.{WireProgram}

-- the kernel's classes, those of the base, and the client's own, with as many entries as each has
abbrev pub client_ranges : List WireFace → List WireFace → Ranges
client_ranges base own = ranges_of (base ++ own)

-- the client's own faces, which may name all classes
abbrev pub own_faces_at : List WireFace → List ℕ → ℕ → Result (Read (List WireFace)) ImageFault
own_faces_at base = faces_after_at (length base + 4) MAX_CLIENT_CLASSES

-- the faces of the base, which name no class of the client, the client's own, a part for each of these, their selects in an
-- image of this version, and main, whose statements have level 1; a number that the form asks for is tested where it stands
unfoldable pub program_at : ClientForm → ℕ → List ℕ → ℕ → Result (Read WireProgram) ImageFault
program_at form version bytes place = do
  classes ← asked_at w16 form.base_classes bytes place
  base ← faces_at bytes place
  own ← own_faces_at base.value bytes base.next
  parts ← parts_at (client_ranges base.value own.value) own.value bytes own.next
  selects ← section_at version (client_ranges base.value own.value) (length base.value + 4) bytes parts.next
  statements ← asked_at w32 form.statements bytes selects.next
  main ← block_at (levels_left 1) (client_ranges base.value own.value) bytes selects.next
  done (record { base = base.value; faces = own.value; parts = parts.value; selects = selects.value; main = main.value }) main.next

-- `SOMC` and version 1 or 2, the program, and nothing more, from a place on
unfoldable pub image_at : ClientForm → List ℕ → ℕ → Result WireProgram ImageFault
image_at form bytes place = do
  version ← head_at (codes "SOMC") 2 bytes place
  program ← program_at form version.value bytes version.next
  at_end bytes program

-- a client image in a file of its own
abbrev pub wire_at : List ℕ → Result WireProgram ImageFault
wire_at bytes = image_at any_form bytes 0
