use Rattle.std.proofs.Common.{◌≡◌, length, map, take}
use Rattle.som_model.specs.declared.program.Interface.{Interface}
use Rattle.som_flat.proofs.sizes.sizes_of.Given as goal

abbrev pub invariant-loop-level : goal.invariant-loop-level
invariant-loop-level l = l.sizes ≡ map (λ (i : Interface). length i.classes) (take l.level-index l.levels)
