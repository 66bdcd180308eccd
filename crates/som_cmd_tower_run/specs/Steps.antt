-- What a client of a tower and the levels below it come to before main runs, step by step; the first step that refuses, refuses for all.
use Rattle.std.specs.Prelude.{ℕ, true, List, [], ◌∷◌, length, Option, Result, Ok}
use Rattle.som_model.specs.Bytes.{Files}
use Rattle.som_model.specs.Class.{interface_of}
use Rattle.som_model.specs.Compatible.{CompatBreach}
use Rattle.som_model.specs.Steps.{◌>>=◌}
use Rattle.som_tower.specs.Towers.{programs_above, tower_break}
use Rattle.som_cmd_steps.specs.declared.stop.Refusal.{Refusal}
use Rattle.som_cmd_steps.specs.Fetching.{file_of}
use Rattle.som_cmd_steps.specs.Getting.{images_in}
use Rattle.som_cmd_steps.specs.ImageSteps.{program_rules_kept}
use Rattle.som_cmd_levels.specs.Comparing.{level_kept_or}
use Rattle.som_cmd_levels.specs.LevelImages.{level_read}
use Rattle.som_cmd_levels.specs.Levels.{levels_in, levels_rules_kept}
use Rattle.som_cmd_tower_run.specs.declared.tower.Tower.{Tower}

-- the client is read, as one above so many levels, and then these, from the lowest up; the rules of these are looked at, and then the client's
abbrev pub tower_of : List ℕ → List (List ℕ) → List ℕ → List (List ℕ) → Result Tower Refusal
tower_of client below client_bytes images = do
  c ← level_read (length below) true client client_bytes
  levels ← levels_in below images
  rules ← levels_rules_kept below levels
  own ← program_rules_kept client c.program
  Ok (record { levels = levels; client = c })

-- all images are got before any is read, the client's first
abbrev pub tower_in : List ℕ → List (List ℕ) → Files → Result Tower Refusal
tower_in client below files = do
  client_bytes ← file_of client files
  images ← images_in below files
  tower_of client below client_bytes images

-- what a tower breaks first: each level and then the client is compared with the levels below it
abbrev pub first_broken : Tower → Option (ℕ × CompatBreach)
first_broken t = tower_break (interface_of t.levels.base ∷ []) (programs_above t.levels.uppers t.client)

-- a tower that breaks nothing; else it is told under the name of the level whose class it is
abbrev pub kept_tower : List (List ℕ) → Tower → Result Tower Refusal
kept_tower below t = do
  kept ← level_kept_or below (first_broken t)
  Ok t

-- all steps from the bytes on
abbrev pub laid_of : List ℕ → List (List ℕ) → List ℕ → List (List ℕ) → Result Tower Refusal
laid_of client below client_bytes images = tower_of client below client_bytes images >>= kept_tower below

-- all steps before main
abbrev pub laid_in : List ℕ → List (List ℕ) → Files → Result Tower Refusal
laid_in client below files = tower_in client below files >>= kept_tower below
