use Rattle.std.proofs.Common.{◌≡◌, take}
use Rattle.som_order.specs.Names.{texts}
use Rattle.som_levels.specs.Flat.{names_of}
use Rattle.som_levels.proofs.modules.names_in.Given as goal

abbrev pub invariant-loop-face : goal.invariant-loop-face
invariant-loop-face l = texts l.names.keys ≡ take l.face-index (names_of l.base)
