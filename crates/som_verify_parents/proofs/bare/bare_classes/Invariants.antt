use Rattle.std.proofs.Common.{◌≡◌, take, map}
use Rattle.som_model.specs.Class.{bare}
use Rattle.som_verify_parents.proofs.bare.bare_classes.Given as goal

abbrev pub invariant-loop-face : goal.invariant-loop-face
invariant-loop-face l = l.classes ≡ map bare (take l.face-index l.faces)
