-- What a run of a tower prints and answers: the first step that refuses, or what the client means.
use Rattle.std.specs.Prelude.{◌≡◌, ◌++◌, ℕ, List, Result, Ok, Err}
use Rattle.som_model.specs.declared.program.Release.{Release}
use Rattle.som_model.specs.Bytes.{Files}
use Rattle.som_model.specs.Kernel.{kernel}
use Rattle.som_semantics.specs.Means.{means_in}
use Rattle.som_semantics.specs.Runs.{Ran}
use Rattle.som_semantics.specs.RunText.{no_trace}
use Rattle.som_semantics.specs.World.{world}
use Rattle.som_level_programs.specs.ByLevels.{main_by_level}
use Rattle.som_towerimage.specs.declared.level.Level.{Level}
use Rattle.som_tower.specs.Towers.{tower_classes}
use Rattle.som_cmd_steps.specs.declared.stop.Refusal.{Refusal}
use Rattle.som_cmd_steps.specs.Endings.{Ending, refusing}
use Rattle.som_cmd_run.specs.RunAnswer.{ran}
use Rattle.som_cmd_tower_run.specs.declared.tower.Tower.{Tower}
use Rattle.som_cmd_tower_run.specs.Steps.{laid_in}

-- what a client means, with so much fuel, among the kernel's classes, those of a library and of the levels above it, and its own, each keyed by its level
abbrev pub tower_means : Release → List Level → Level → ℕ → Ran (Unit {0})
tower_means base uppers client fuel = means_in (world (kernel ++ tower_classes base uppers client)) (main_by_level client.sizes client.client client.program) fuel

-- the client of a tower runs, with so much fuel and no call shown, and what is refused is told
abbrev pub ending_by : ℕ → Files → Result Tower Refusal → Ending
ending_by fuel files (Ok t) = ran no_trace files (tower_means t.levels.base t.levels.uppers t.client fuel)
ending_by fuel files (Err r) = refusing files r

-- how a run ends: all images are got, read and looked at, the tower is laid out, and the client runs
abbrev pub tower_run_ending : List ℕ → List (List ℕ) → ℕ → Files → Ending
tower_run_ending client below fuel files = ending_by fuel files (laid_in client below files)

abbrev pub IsTowerRunAnswer : List ℕ → List (List ℕ) → ℕ → Files → Ending → Type 0
IsTowerRunAnswer client below fuel files e = e ≡ tower_run_ending client below fuel files
