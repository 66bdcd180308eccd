-- What laying out a tower answers.
use Rattle.std.specs.Prelude.{◌≡◌, ◌++◌, ℕ, List, Option, Some, None, Result, Ok, Err}
use Rattle.som_model.specs.Bytes.{Files}
use Rattle.som_model.specs.Kernel.{kernel}
use Rattle.som_class_kernel.specs.Linked.{Linkage}
use Rattle.som_level_programs.specs.ByLevels.{main_by_level}
use Rattle.som_tower.specs.Towers.{tower_classes}
use Rattle.som_cmd_steps.specs.declared.stop.Refusal.{Refusal}
use Rattle.som_cmd_steps.specs.declared.stop.CommandStop.{CommandStop}
use Rattle.som_cmd_steps.specs.Steps.{Stops}
use Rattle.som_cmd_tower_run.specs.declared.tower.Tower.{Tower}
use Rattle.som_cmd_tower_run.specs.Steps.{laid_in}

-- the kernel has the classes of all levels and of the client, and the client's main, by levels
pub record IsKernelOf (t : Tower) (k : Linkage) : Type 0 where
  pub classes : k.classes.classes ≡ kernel ++ tower_classes t.levels.base t.levels.uppers t.client
  pub main : k.main ≡ main_by_level t.client.sizes t.client.client t.client.program

-- the kernel of the tower that the steps come to, or what they refuse, unless the store failed or memory ran out
abbrev pub Lays : Result Tower Refusal → Result Linkage CommandStop → Type 0
Lays steps (Ok k) = (t : Tower) × (steps ≡ Ok t) × IsKernelOf t k
Lays steps (Err stop) = Stops stop steps

-- the kernel that laying out over a store comes to, or what is refused, where the store tells its files
abbrev pub LaysTold : Option Files → List ℕ → List (List ℕ) → Result Linkage CommandStop → Type 0
LaysTold None client below result = Unit {0}
LaysTold (Some files) client below result = Lays (laid_in client below files) result
