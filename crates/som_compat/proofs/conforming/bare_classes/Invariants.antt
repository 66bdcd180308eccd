use Rattle.std.proofs.Common.{◌≡◌, map, take}
use Rattle.som_model.specs.Class.{bare}
use Rattle.som_compat.proofs.conforming.bare_classes.Given as goal

abbrev pub invariant-loop-face : goal.invariant-loop-face
invariant-loop-face l = l.classes.items ≡ map bare (take l.face-index l.faces)
