-- What `tower check` prints and answers: the first step of all that refuses, or that the newer library is accepted.
use Rattle.std.specs.Prelude.{ℕ, List, [], ◌∷◌, ◌++◌, length, false, Option, Some, None, Result, Ok, Err, ◌≡◌, codes}
use Rattle.som_model.specs.Bytes.{Files}
use Rattle.som_model.specs.Compatible.{CompatBreach}
use Rattle.som_model.specs.Steps.{◌>>=◌}
use Rattle.som_level_laws.specs.Levels.{first_level_break}
use Rattle.som_towerimage.specs.declared.level.Level.{Level}
use Rattle.som_cmd_steps.specs.declared.stop.Refusal.{Refusal}
use Rattle.som_cmd_steps.specs.Endings.{Ending, refusing}
use Rattle.som_cmd_steps.specs.Fetching.{file_of}
use Rattle.som_cmd_steps.specs.ImageSteps.{program_rules_kept}
use Rattle.som_cmd_steps.specs.Lines.{not_kept}
use Rattle.som_cmd_steps.specs.Status.{failing_statuses}
use Rattle.som_cmd_levels.specs.LevelImages.{level_read, upper_read}
use Rattle.som_cmd_tower_check.specs.Libraries.{promised}

abbrev pub accepted_line : List ℕ
accepted_line = codes "accepted" ++ 10 ∷ []

-- the first thing that a newer library, with the levels below it against which it was compiled, doesn't keep of an older one with those below that
abbrev pub first_lost : Level → Level → Option (ℕ × CompatBreach)
first_lost old new = first_level_break (promised old) (promised new)

-- the line that accepts, or the refusal that tells what isn't kept, under the name of the newer library
abbrev pub accepted_or : List ℕ → Option (ℕ × CompatBreach) → Result (List ℕ) Refusal
accepted_or new None = Ok accepted_line
accepted_or new (Some found) = Err (not_kept new found.1)

-- the line that comes of two libraries: the rules of both are looked at, and then they are compared
abbrev pub line_compared : List ℕ → List ℕ → Level → Level → Result (List ℕ) Refusal
line_compared old new o n = do
  old_kept ← program_rules_kept old o.program
  new_kept ← program_rules_kept new n.program
  accepted_or new (first_lost o n)

-- the line that comes of two images: the older one is read, and then the newer one, which has to stand above as many levels
abbrev pub line_checked : List ℕ → List ℕ → List ℕ → List ℕ → Result (List ℕ) Refusal
line_checked old new old_bytes new_bytes = do
  o ← upper_read old old_bytes
  n ← level_read (length o.sizes) false new new_bytes
  line_compared old new o n

-- both are got before one is read
abbrev pub line_told : List ℕ → List ℕ → Files → Result (List ℕ) Refusal
line_told old new files = do
  old_bytes ← file_of old files
  new_bytes ← file_of new files
  line_checked old new old_bytes new_bytes

-- the line is printed, and what is refused is told
abbrev pub line_ending : Files → Result (List ℕ) Refusal → Ending
line_ending files (Ok line) = record { text = line; status = 0; files = files }
line_ending files (Err r) = refusing files r

-- how a call ends
abbrev pub IsTowerCheckAnswer : List ℕ → List ℕ → Files → Ending → Type 0
IsTowerCheckAnswer old new files e = e ≡ line_ending files (line_told old new files)

-- the statuses of `tower check`: the newer library is accepted, it doesn't keep something, one is no image or not at its place, one isn't there, or something failed
abbrev pub tower_check_statuses : List ℕ
tower_check_statuses = 0 ∷ 4 ∷ 5 ∷ 7 ∷ failing_statuses
