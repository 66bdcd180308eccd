-- How a library image is read straight to a release with names.
use Rattle.std.specs.Prelude.{ℕ, List, codes, map, Result}
use Rattle.som_model.specs.Steps.{◌>>=◌}
use Rattle.som_model.specs.declared.program.Release.{Release}
use Rattle.som_image_fields.specs.declared.fault.ImageFault.{ImageFault}
use Rattle.som_image_fields.specs.declared.face.WireFace.{WireFace}
use Rattle.som_image_fields.specs.declared.selects.WireSelects.{WireSelects}
use Rattle.som_image_decode.specs.Naming.{library_directory}
use Rattle.som_image_bodies.specs.Naming.{naming}
use Rattle.som_image_classes.specs.declared.named_part.NamedPart.{NamedPart}
use Rattle.som_image_classes.specs.NamedClasses.{part_named, classes_of, with_selects}
use Rattle.som_image_classes.specs.ReadClasses.{ranges_of, faces_at, parts_at, section_at, head_at, at_end}

-- the release of faces, parts with names, and selects
abbrev pub release_of : List WireFace → List NamedPart → List WireSelects → Release
release_of fs ps ss = let d = library_directory fs in record { classes = with_selects d 4 ss (classes_of d fs ps) }

-- what follows the faces in an image of this version: a part for each, and the selects, and nothing more
unfoldable pub named_bodies_at : ℕ → List WireFace → List ℕ → ℕ → Result Release ImageFault
named_bodies_at version faces bytes place = do
  parts ← naming (map (part_named (library_directory faces))) (parts_at (ranges_of faces) faces bytes place)
  selects ← section_at version (ranges_of faces) 4 bytes parts.next
  at_end bytes (record { value = release_of faces parts.value selects.value; next = selects.next })

-- `SOML` and version 1 or 2, the faces, and what follows them
unfoldable pub release_at : List ℕ → Result Release ImageFault
release_at bytes = do
  version ← head_at (codes "SOML") 2 bytes 0
  faces ← faces_at bytes version.next
  named_bodies_at version.value faces.value bytes faces.next
