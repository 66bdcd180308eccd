-- What reading the images of libraries that stand one above the other answers, and looking at their rules; the first that refuses, refuses for all.
use Rattle.std.specs.Prelude.{◌≡◌, ℕ, suc, ◌+◌, Bool, false, List, [], ◌∷◌, drop, length, slice_get, Some, Result, Ok}
use Rattle.som_model.specs.Steps.{◌>>=◌}
use Rattle.som_model.specs.Conforming.{ProgramOk, ReleaseOk}
use Rattle.som_order.specs.Names.{name_at}
use Rattle.som_libimage.specs.Limits as releases
use Rattle.som_cliimage.specs.Limits as programs
use Rattle.som_towerimage.specs.declared.level.Level.{Level}
use Rattle.som_towerimage.specs.Spelling.{FitsTower}
use Rattle.som_cmd_steps.specs.declared.stop.Refusal.{Refusal}
use Rattle.som_cmd_steps.specs.EachImage.{each_passes}
use Rattle.som_cmd_steps.specs.ImageSteps.{program_rules_kept, release_in, rules_kept}
use Rattle.som_cmd_levels.specs.declared.levels.LevelsBelow.{LevelsBelow}
use Rattle.som_cmd_levels.specs.LevelImages.{level_read}

-- ---- reading

-- the libraries of tower images under their names: the first above so many levels, each next one above one more
abbrev pub uppers_in : ℕ → List (List ℕ) → List (List ℕ) → Result (List Level) Refusal
uppers_in below [] images = Ok []
uppers_in below (n ∷ ns) [] = Ok []
uppers_in below (n ∷ ns) (b ∷ bs) = do
  l ← level_read below false n b
  ls ← uppers_in (suc below) ns bs
  Ok (l ∷ ls)

-- the first image is that of a library that stands on none, and the others are those of the libraries above it, from the lowest up
abbrev pub levels_in : List (List ℕ) → List (List ℕ) → Result LevelsBelow Refusal
levels_in names images = do
  r ← release_in (name_at names 0) (name_at images 0)
  ls ← uppers_in 1 (drop 1 names) (drop 1 images)
  Ok (record { base = r; uppers = ls })

-- ---- rules

-- whether the program of a level under a name breaks no rule
abbrev pub level_rules_kept : List ℕ → Level → Result (Unit {0}) Refusal
level_rules_kept name l = program_rules_kept name l.program

-- whether none of these libraries breaks a rule, from the lowest up
abbrev pub levels_rules_kept : List (List ℕ) → LevelsBelow → Result (Unit {0}) Refusal
levels_rules_kept names below = do
  kept ← rules_kept (name_at names 0) below.base
  each_passes level_rules_kept (drop 1 names) below.uppers

-- ---- what is known then

-- a level that fits a tower and that an image has room for, above so many others, and a client or a library
pub record IsLevelAt (below : ℕ) (client : Bool) (l : Level) : Type 0 where
  pub fits : FitsTower l
  pub within : programs.IsWithinLimits l.program
  pub levels : length l.sizes ≡ below
  pub kind : l.client ≡ client

-- libraries one above the other, the first above so many levels
abbrev pub AreUppers : ℕ → List Level → Type 0
AreUppers below ls = (i : ℕ) (l : Level) → slice_get ls i ≡ Some l → IsLevelAt (below + i) false l

-- as many libraries as names: the lowest, which an image has room for, and those above it
pub record AreLevelsOf (names : List (List ℕ)) (below : LevelsBelow) : Type 0 where
  pub base : releases.IsWithinLimits below.base
  pub uppers : AreUppers 1 below.uppers
  pub many : length below.uppers + 1 ≡ length names

-- the programs of these levels conform
abbrev pub AllConform : List Level → Type 0
AllConform ls = (i : ℕ) (l : Level) → slice_get ls i ≡ Some l → ProgramOk l.program

-- the library that stands on none conforms, and so do those above it
pub record LevelsConform (below : LevelsBelow) : Type 0 where
  pub base : ReleaseOk below.base
  pub uppers : AllConform below.uppers
