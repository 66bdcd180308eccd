use Rattle.std.proofs.Common.{◌≡◌, map, take}
use Rattle.som_level_programs.specs.ByLevels.{level_change}
use Rattle.som_rekey_laws.specs.Rekeying.{rekey_face}
use Rattle.som_levels.proofs.interfaces.faces_by_level.Given as goal

abbrev pub invariant-loop-face : goal.invariant-loop-face
invariant-loop-face l = l.copies ≡ map (rekey_face (level_change l.modules.sizes l.modules.client l.modules.base)) (take l.face-index l.faces)
