use Rattle.std.proofs.Common.{◌≡◌, map, take}
use Rattle.som_image_encode.specs.Numbering.{number_of}
use Rattle.som_image_encode.proofs.numbered_face.number_parents.Given as goal

abbrev pub invariant-loop-parent : goal.invariant-loop-parent
invariant-loop-parent l = l.numbered ≡ map (number_of l.directory.keys) (take l.parent-index l.parents)
