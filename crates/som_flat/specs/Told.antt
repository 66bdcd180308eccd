-- What an answer tells.
use Rattle.std.specs.Prelude.{◌≡◌, ℕ, List, map, Option, Some, None, Result, Ok, Err}
use Rattle.som_model.specs.Lists.{Mem}
use Rattle.som_model.specs.Class.{Class}
use Rattle.som_model.specs.Rules.{RuleBreach, name_of}
use Rattle.som_verify_classes.specs.Modules.{module_of}
use Rattle.som_verify_classes.specs.Told.{told}
use Rattle.som_compat_levels.specs.Told.{level_of}
use Rattle.som_flat.specs.declared.breach.FlatFault.{FlatFault}
use Rattle.som_flat.specs.declared.breach.FlatFault.TheVariants as faults

-- all is well exactly where there is no breach, and a breach that is told is that one, with its level; want of memory says nothing
abbrev pub TellsFlat : Option (ℕ × RuleBreach) → Result (Unit {0}) FlatFault → Type 0
TellsFlat breach (Ok _) = breach ≡ None
TellsFlat breach (Err (faults.Rule level broken)) = breach ≡ Some (level, told broken)
TellsFlat breach (Err faults.NoMemory) = Unit {0}

-- one of the classes has the name, and this is the number of its level
pub record IsLevelOf (cs : List Class) (name : List ℕ) (level : ℕ) : Type 0 where
  pub class : Class
  pub among : Mem class cs
  pub named : name_of class ≡ name
  pub level_is : level ≡ level_of (module_of class)

-- the same of a breach, where the level is that of a class of its name
abbrev pub TellsNamed : List Class → Option RuleBreach → Result (Unit {0}) FlatFault → Type 0
TellsNamed cs breach (Ok _) = breach ≡ None
TellsNamed cs breach (Err (faults.Rule level broken)) = (breach ≡ Some (told broken)) × (Mem broken.class (map name_of cs) → IsLevelOf cs broken.class level)
TellsNamed cs breach (Err faults.NoMemory) = Unit {0}
