-- What stops a run whose tower isn't laid out.
use Rattle.std.specs.Prelude.{◌≡◌, ◌<◌, ℕ, List, Some}
use Rattle.som_model.specs.Compatible.{CompatBreach}
use Rattle.som_compat_levels.specs.declared.breach.LevelFault.{LevelFault}
use Rattle.som_compat_levels.specs.declared.breach.LevelFault.TheVariants as faults
use Rattle.som_compat_levels.specs.Told.{IsTold}
use Rattle.som_cmd_steps.specs.declared.stop.CommandStop.{CommandStop}
use Rattle.som_cmd_steps.specs.declared.stop.CommandStop.TheVariants as stops
use Rattle.som_cmd_steps.specs.Steps.{Stops}
use Rattle.som_cmd_levels.specs.Comparing.{level_kept_or}

-- a breach is of a class of one of so many levels
abbrev pub IsWithin : ℕ → LevelFault → Type 0
IsWithin levels (faults.Breach b) = b.level < levels
IsWithin levels faults.NoMemory = Unit {0}

-- what a level doesn't keep is told under its name, or memory ran out
abbrev pub StopsFor : List (List ℕ) → LevelFault → CommandStop → Type 0
StopsFor below (faults.Breach b) stop = (found : ℕ × CompatBreach) → IsTold found b → Stops {A = Unit {0}} stop (level_kept_or below (Some found))
StopsFor below faults.NoMemory stop = stop ≡ stops.NoMemory
