use Rattle.std.proofs.Common.{◌≡◌, map, take}
use Rattle.som_image_encode.specs.NumberedClasses.{face_numbered}
use Rattle.som_cliimage.proofs.numbered.number_each.Given as goal

abbrev pub invariant-loop-face : goal.invariant-loop-face
invariant-loop-face l = l.numbered ≡ map (face_numbered l.directory.keys) (take l.face-index l.faces)
