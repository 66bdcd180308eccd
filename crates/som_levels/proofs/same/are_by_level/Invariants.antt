use Rattle.std.proofs.Common.{◌≡◌, map, take}
use Rattle.som_level_programs.specs.ByLevels.{level_change}
use Rattle.som_rekey_laws.specs.Rekeying.{rekey_face}
use Rattle.som_levels.proofs.same.are_by_level.Given as goal

abbrev pub invariant-loop-i : goal.invariant-loop-i
invariant-loop-i l = take l.i l.others ≡ map (rekey_face (level_change l.modules.sizes l.modules.client l.modules.base)) (take l.i l.faces)
