use Rattle.std.proofs.Common.{◌≡◌, map, take}
use Rattle.som_image_encode.specs.NumberedClasses.{face_numbered}
use Rattle.som_image_encode.proofs.numbered_classes.number_faces.Given as goal

abbrev pub invariant-loop-class : goal.invariant-loop-class
invariant-loop-class l = l.faces ≡ map (λ c. face_numbered l.directory.keys c.face) (take l.class-index l.classes)
