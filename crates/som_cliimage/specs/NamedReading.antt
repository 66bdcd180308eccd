-- How a client image is read straight to a program with names.
use Rattle.std.specs.Prelude.{ℕ, ◌+◌, List, length, map, codes, Result}
use Rattle.std.specs.Int.{w16, w32}
use Rattle.som_model.specs.Steps.{◌>>=◌}
use Rattle.som_model.specs.declared.syntax.Block.{Block}
use Rattle.som_model.specs.declared.program.ClientProgram.{ClientProgram}
use Rattle.som_image_fields.specs.declared.fault.ImageFault.{ImageFault}
use Rattle.som_image_fields.specs.declared.face.WireFace.{WireFace}
use Rattle.som_image_fields.specs.declared.selects.WireSelects.{WireSelects}
use Rattle.som_image_fields.specs.Fitting.{levels_left}
use Rattle.som_wire.specs.Reading.{block_at}
use Rattle.som_image_decode.specs.NamedBlocks.{block_named}
use Rattle.som_image_bodies.specs.Naming.{naming}
use Rattle.som_image_classes.specs.declared.named_part.NamedPart.{NamedPart}
use Rattle.som_image_classes.specs.NamedClasses.{part_named, classes_of, interface_named, with_selects}
use Rattle.som_image_classes.specs.ReadClasses.{faces_at, parts_at, section_at, head_at, at_end}
use Rattle.som_cliimage.specs.declared.form.ClientForm.{ClientForm}
use Rattle.som_cliimage.specs.Forms.{asked_at}
use Rattle.som_cliimage.specs.Reading.{client_ranges, own_faces_at}
use Rattle.som_cliimage.specs.Naming.{client_directory}

-- the program of the faces of its base and its own, parts with names, selects, and main
abbrev pub program_of : List WireFace → List WireFace → List NamedPart → List WireSelects → Block → ClientProgram
program_of base own parts selects main = let d = client_directory base own in record {
  base = interface_named base;
  classes = with_selects d (length base + 4) selects (classes_of d own parts);
  main = main;
}

-- what follows the faces in an image of this version: a part for each of the client's own, the selects, main, and nothing more
unfoldable pub named_bodies_at : ClientForm → ℕ → List WireFace → List WireFace → List ℕ → ℕ → Result ClientProgram ImageFault
named_bodies_at form version base own bytes place = do
  parts ← naming (map (part_named (client_directory base own))) (parts_at (client_ranges base own) own bytes place)
  selects ← section_at version (client_ranges base own) (length base + 4) bytes parts.next
  statements ← asked_at w32 form.statements bytes selects.next
  main ← naming (block_named (client_directory base own)) (block_at (levels_left 1) (client_ranges base own) bytes selects.next)
  at_end bytes (record { value = program_of base own parts.value selects.value main.value; next = main.next })

-- `SOMC` and version 1 or 2, the faces, and what follows them
unfoldable pub named_image_at : ClientForm → List ℕ → ℕ → Result ClientProgram ImageFault
named_image_at form bytes place = do
  version ← head_at (codes "SOMC") 2 bytes place
  classes ← asked_at w16 form.base_classes bytes version.next
  base ← faces_at bytes version.next
  own ← own_faces_at base.value bytes base.next
  named_bodies_at form version.value base.value own.value bytes own.next
