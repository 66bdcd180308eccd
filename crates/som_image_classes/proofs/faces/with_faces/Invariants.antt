use Rattle.std.proofs.Common.{◌≡◌, ◌++◌, take}
use Rattle.std.specs.List.{flat_map}
use Rattle.som_image_fields.specs.Spelling.{face}
use Rattle.som_image_classes.proofs.faces.with_faces.Given as goal

abbrev pub invariant-loop-face : goal.invariant-loop-face
invariant-loop-face l = l.image ≡ l.fn.front ++ flat_map face (take l.face-index l.faces)
