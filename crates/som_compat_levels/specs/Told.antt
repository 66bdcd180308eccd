-- What an answer tells.
use Rattle.std.specs.Prelude.{◌≡◌, ◌++◌, ℕ, List, map, flat_map, drop, codes, Option, Some, None, Result, Ok, Err, unwrap_or}
use Rattle.som_model.specs.declared.key.Module.{Module}
use Rattle.som_model.specs.declared.key.Module.TheVariants as modules
use Rattle.som_model.specs.Lists.{first}
use Rattle.som_model.specs.Class.{Class}
use Rattle.som_model.specs.Compatible.{CompatBreach, k2, k3, k4, k6}
use Rattle.som_verify_classes.specs.Modules.{module_of}
use Rattle.som_level_laws.specs.Levels.{level_class_breaks, level_k5}
use Rattle.som_compat_levels.specs.declared.breach.LevelBreach.{LevelBreach}
use Rattle.som_compat_levels.specs.declared.breach.LevelFault.{LevelFault}
use Rattle.som_compat_levels.specs.declared.breach.LevelFault.TheVariants as faults

-- the number of the level whose classes have the module
abbrev pub level_of : Module → ℕ
level_of modules.Kernel = 0
level_of modules.Library = 0
level_of (modules.Upper k) = k
level_of modules.Client = 0

-- what a class with one of its key in the new breaks of K2 to K6
abbrev pub pair_breaks : List Class → List Class → Class → Class → List CompatBreach
pair_breaks olds news c n = k2 c n ++ (k3 olds news c ++ (k4 c n ++ (level_k5 olds news c ++ k6 news c)))

-- what a class breaks, with the number of its level
abbrev pub leveled_breaks : List Class → List Class → Class → List (ℕ × CompatBreach)
leveled_breaks olds news c = map (λ b. (level_of (module_of c), b)) (level_class_breaks olds news c)

-- the first that the classes after the kernel's break, with the number of its level
abbrev pub first_leveled : List Class → List Class → Option (ℕ × CompatBreach)
first_leveled olds news = first (flat_map (leveled_breaks olds news) (drop 4 olds))

-- a breach as it is told: one without a name has the name `-`
pub record IsTold (found : ℕ × CompatBreach) (b : LevelBreach) : Type 0 where
  pub level : b.level ≡ found.0
  pub rule : b.rule ≡ found.1.rule
  pub class : b.class ≡ found.1.class
  pub name : b.name ≡ unwrap_or found.1.name (codes "-")
  pub place : b.place ≡ found.1.place

-- all is well exactly where there is no breach, and a breach that is told is the one that there is; want of memory says nothing
abbrev pub TellsLevels : Option (ℕ × CompatBreach) → Result (Unit {0}) LevelFault → Type 0
TellsLevels breach (Ok _) = breach ≡ None
TellsLevels breach (Err (faults.Breach b)) = (found : ℕ × CompatBreach) × (breach ≡ Some found) × IsTold found b
TellsLevels breach (Err faults.NoMemory) = Unit {0}
