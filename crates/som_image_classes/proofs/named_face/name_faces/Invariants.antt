use Rattle.std.proofs.Common.{◌≡◌, map, take}
use Rattle.som_image_classes.specs.NamedClasses.{face_named}
use Rattle.som_image_classes.proofs.named_face.name_faces.Given as goal

abbrev pub invariant-loop-face : goal.invariant-loop-face
invariant-loop-face l = l.named ≡ map (face_named l.keys) (take l.face-index l.faces)
