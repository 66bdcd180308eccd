-- How a run of a tower ends whose images a store holds.
use Rattle.std.specs.Prelude.{◌≡◌, ℕ, suc, true, false, List, [], ◌∷◌, drop, length, Option}
use Rattle.som_model.specs.declared.program.Release.{Release}
use Rattle.som_model.specs.Bytes.{Files}
use Rattle.som_model.specs.Compatible.{CompatBreach}
use Rattle.som_semantics.specs.RunText.{no_trace, run_status, run_text}
use Rattle.som_order.specs.Names.{name_at}
use Rattle.som_towerimage.specs.declared.level.Level.{Level}
use Rattle.som_io.specs.Outside.{ShowsAll}
use Rattle.som_cmd_steps.specs.Lines.{not_kept}
use Rattle.som_cmd_steps.specs.StoredImages.{IsUnder}
use Rattle.som_cmd_levels.specs.StoredLevels.{AreLevelsUnder, IsLevelUnder}
use Rattle.som_cmd_tower_run.specs.TowerRunAnswer.{tower_means}

-- these are libraries, of which the first stands above so many levels, and each next one above one more
abbrev pub StandAbove : ℕ → List Level → Type 0
StandAbove levels [] = Unit {0}
StandAbove levels (l ∷ ls) = (length l.sizes ≡ levels) × (l.client ≡ false) × StandAbove (suc levels) ls

-- the store holds the image of a release, those of libraries one above the other over it, and that of a client above all of these; and all conform
pub record IsTowerUnder (files : Files) (client : List ℕ) (below : List (List ℕ)) (base : Release) (uppers : List Level) (c : Level) : Type 0 where
  pub release : IsUnder files (name_at below 0) base
  pub libraries : AreLevelsUnder files (drop 1 below) uppers
  pub stand : StandAbove 1 uppers
  pub top : IsLevelUnder files client c
  pub is_client : c.client ≡ true
  pub levels : length c.sizes ≡ length below

-- what was written is the text of what the client means among the classes of these levels, with no call shown, and the status is that meaning's
pub record RunsTowerAs (base : Release) (uppers : List Level) (c : Level) (fuel status : ℕ) (old new : Option (List ℕ)) : Type 0 where
  pub text : ShowsAll old new (run_text no_trace (tower_means base uppers c fuel))
  pub status_is : status ≡ run_status (tower_means base uppers c fuel)

-- what was written tells what a level doesn't keep, under its name, and the status is 4
pub record TellsLevelNotKept (below : List (List ℕ)) (level : ℕ) (b : CompatBreach) (status : ℕ) (old new : Option (List ℕ)) : Type 0 where
  pub text : ShowsAll old new (not_kept (name_at below level) b).line
  pub status_is : status ≡ 4
