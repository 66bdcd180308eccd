use Rattle.std.proofs.Common.{◌≡◌, map, take}
use Rattle.som_image_decode.specs.Naming.{key_at}
use Rattle.som_image_classes.proofs.named_face.name_parents.Given as goal

abbrev pub invariant-loop-parent : goal.invariant-loop-parent
invariant-loop-parent l = l.named ≡ map (key_at l.keys) (take l.parent-index l.parents)
