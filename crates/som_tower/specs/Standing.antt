-- A tower that was built so far.
use Rattle.std.specs.Prelude.{◌≡◌, List, [], ◌∷◌, map}
use Rattle.som_model.specs.declared.program.Interface.{Interface}
use Rattle.som_model.specs.declared.program.Release.{Release}
use Rattle.som_model.specs.Class.{interface_of}
use Rattle.som_class_ids.specs.Classes.{classes_of}
use Rattle.som_class_ids.specs.declared.keyed.Keyed.{Keyed}
use Rattle.som_level_programs.specs.Towers.{AreStacked}
use Rattle.som_towerimage.specs.declared.level.Level.{Level}
use Rattle.som_tower.specs.Towers.{interfaces_of, library_levels, plain}

-- the interfaces and classes are those of a library and these levels, each of which stands above levels that keep what it was compiled against
pub record AreBuilt (base : Release) (uppers : List Level) (interfaces : List Interface) (classes : List Keyed) : Type 0 where
  pub stacked : AreStacked (interface_of base ∷ []) (map plain uppers)
  pub interfaces_are : interfaces ≡ interfaces_of base uppers
  pub classes_are : classes_of classes ≡ library_levels base uppers
