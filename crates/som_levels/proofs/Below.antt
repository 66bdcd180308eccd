-- The faces of one level below, named by levels.
use Rattle.std.proofs.Common.{List, map}
use Rattle.som_model.specs.declared.class.ClassFace.{ClassFace}
use Rattle.som_model.specs.declared.program.Interface.{Interface}
use Rattle.som_level_programs.specs.ByLevels.{level_change}
use Rattle.som_rekey_laws.specs.Rekeying.{rekey_face}
use Rattle.som_levels.specs.Flat.{Flat}

-- the interface of faces, under the new keys
abbrev pub by_level : Flat → List ClassFace → Interface
by_level m faces = record { classes = map (rekey_face (level_change m.sizes m.client m.base)) faces }
