-- How a library image is read from left to right: each field at its place, and the first fault.
use Rattle.std.specs.Prelude.{ℕ, List, codes, Result}
use Rattle.som_model.specs.Steps.{◌>>=◌}
use Rattle.som_image_fields.specs.declared.fault.ImageFault.{ImageFault}
use Rattle.som_image_fields.specs.declared.read.Read.{Read}
use Rattle.som_image_fields.specs.Fields.{done}
use Rattle.som_image_classes.specs.ReadClasses.{ranges_of, faces_at, parts_at, section_at, head_at, at_end}
use Rattle.som_libimage.specs.declared.wire.WireRelease.{WireRelease}

-- the faces, a part for each, and the selects in an image of this version
unfoldable pub classes_at : ℕ → List ℕ → ℕ → Result (Read WireRelease) ImageFault
classes_at version bytes place = do
  faces ← faces_at bytes place
  parts ← parts_at (ranges_of faces.value) faces.value bytes faces.next
  selects ← section_at version (ranges_of faces.value) 4 bytes parts.next
  done (record { faces = faces.value; parts = parts.value; selects = selects.value }) selects.next

-- `SOML` and version 1 or 2, the classes, and nothing more
unfoldable pub wire_at : List ℕ → Result WireRelease ImageFault
wire_at bytes = do
  version ← head_at (codes "SOML") 2 bytes 0
  release ← classes_at version.value bytes version.next
  at_end bytes release
