use Rattle.std.proofs.Common.{◌≡◌, map, take}
use Rattle.som_image_encode.specs.Numbering.{kind_numbered}
use Rattle.som_image_encode.proofs.numbered_face.number_kinds.Given as goal

abbrev pub invariant-loop-kind : goal.invariant-loop-kind
invariant-loop-kind l = l.numbered ≡ map (kind_numbered l.directory.keys) (take l.kind-index l.kinds)
