-- How a call of `tower check` ends of tower images that a store holds.
use Rattle.std.specs.Prelude.{◌≡◌, ℕ, false, List, length, Option}
use Rattle.som_model.specs.Bytes.{Files}
use Rattle.som_model.specs.Compatible.{CompatBreach}
use Rattle.som_io.specs.Outside.{ShowsAll}
use Rattle.som_level_laws.specs.Levels.{CompatibleLevels}
use Rattle.som_towerimage.specs.declared.level.Level.{Level}
use Rattle.som_cmd_steps.specs.Lines.{not_kept}
use Rattle.som_cmd_levels.specs.StoredLevels.{IsLevelUnder}
use Rattle.som_cmd_tower_check.specs.Libraries.{promised}
use Rattle.som_cmd_tower_check.specs.TowerCheckAnswer.{accepted_line}

-- the store holds the tower images of two libraries with as many levels below, and both conform
pub record AreLibrariesUnder (files : Files) (old new : List ℕ) (o n : Level) : Type 0 where
  pub old_under : IsLevelUnder files old o
  pub new_under : IsLevelUnder files new n
  pub old_library : o.client ≡ false
  pub new_library : n.client ≡ false
  pub alike : length n.sizes ≡ length o.sizes

-- the newer library keeps all that the older one promises, each with the levels below it against which it was compiled
abbrev pub IsKeptBy : Level → Level → Type 0
IsKeptBy o n = CompatibleLevels (promised o) (promised n)

-- the newer library keeps all exactly where the status is 0, and then what was written says so
pub record TellsLevelAccepted (o n : Level) (status : ℕ) (old new : Option (List ℕ)) : Type 0 where
  pub status_is : IsKeptBy o n → status ≡ 0
  pub text : IsKeptBy o n → ShowsAll old new accepted_line
  pub only : status ≡ 0 → IsKeptBy o n

-- what was written tells what the newer library doesn't keep, under its name, and the status is 4
pub record TellsLevelBreach (name : List ℕ) (b : CompatBreach) (status : ℕ) (old new : Option (List ℕ)) : Type 0 where
  pub text : ShowsAll old new (not_kept name b).line
  pub status_is : status ≡ 4
