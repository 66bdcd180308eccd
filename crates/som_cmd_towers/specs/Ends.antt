-- How a call of a command on towers may end, and what it leaves of the files.
use Rattle.std.specs.Prelude.{◌≡◌, ◌⊎◌, ℕ, List, [], ◌∷◌, Option}
use Rattle.som_model.specs.Bytes.{Files}
use Rattle.som_cmd_steps.specs.Getting.{FailsGetting}
use Rattle.som_cmd_steps.specs.Refusing.{TellsRefusal}
use Rattle.som_cmd_build.specs.PutEnds.{LeavesFilesTold}
use Rattle.som_cmd_tower_make.specs.Cause.{FailsTowerMake}
use Rattle.som_cmd_tower_make.specs.TowerMakeAnswer.{IsTowerMade}
use Rattle.som_cmd_tower_run.specs.Refusals.{IsTowerRefusal}
use Rattle.som_cmd_towers.specs.Asked.{TowerAsked, Make, Compare, RunOn}

-- the line says that the get or put of a name failed which the command gets or puts, and no step before refuses
abbrev pub FailsTower : Option Files → TowerAsked → List ℕ → Type 0
FailsTower files (Make out below names) line = FailsTowerMake files out below names line
FailsTower files (Compare old new) line = FailsGetting files (old ∷ new ∷ []) line
FailsTower files (RunOn client below fuel) line = FailsGetting files (client ∷ below) line

-- no command changes files but `tower make`
abbrev pub KeepsTowerFiles : TowerAsked → Option Files → ℕ → ℕ → ℕ → Option Files → Option (List ℕ) → Option (List ℕ) → Type 0
KeepsTowerFiles (Make out below names) files before now status new_files old new = LeavesFilesTold (λ told. IsTowerMade told below names) files out before now status new_files old new
KeepsTowerFiles (Compare old_name new_name) files before now status new_files old new = new_files ≡ files
KeepsTowerFiles (RunOn client below fuel) files before now status new_files old new = new_files ≡ files

-- a run that is refused tells it by one line alone
abbrev pub TellsTowerLine : TowerAsked → ℕ → Option (List ℕ) → Option (List ℕ) → Type 0
TellsTowerLine (Make out below names) status old new = Unit {0}
TellsTowerLine (Compare old_name new_name) status old new = Unit {0}
TellsTowerLine (RunOn client below fuel) status old new = (status ≡ 4) ⊎ (status ≡ 5) ⊎ (status ≡ 7) → TellsRefusal (IsTowerRefusal client below) status old new
