use Rattle.std.proofs.Common.{◌≡◌, map, take}
use Rattle.som_image_decode.specs.Naming.{kind_named}
use Rattle.som_image_classes.proofs.named_face.name_kinds.Given as goal

abbrev pub invariant-loop-kind : goal.invariant-loop-kind
invariant-loop-kind l = l.named ≡ map (kind_named l.keys) (take l.kind-index l.kinds)
