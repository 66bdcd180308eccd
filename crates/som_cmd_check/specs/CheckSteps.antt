-- What the steps of checking images answer.
use Rattle.std.specs.Prelude.{ℕ, List, Option, Some, None, Result, Ok, Err}
use Rattle.som_model.specs.Compatible.{CompatBreach}
use Rattle.som_model.specs.Steps.{◌>>=◌}
use Rattle.som_order.specs.Names.{name_at}
use Rattle.som_cmd_steps.specs.declared.stop.Refusal.{Refusal}
use Rattle.som_cmd_steps.specs.Lines.{not_kept}
use Rattle.som_cmd_check.specs.CheckAnswer.{accepted_line, releases_in, all_rules_kept, first_not_kept}

-- the line that accepts, or the refusal that tells what isn't kept
abbrev pub accepted_or : List (List ℕ) → Option (ℕ × CompatBreach) → Result (List ℕ) Refusal
accepted_or names None = Ok accepted_line
accepted_or names (Some told) = Err (not_kept (name_at names told.0) told.1)

-- the line that comes of checking images under their names
abbrev pub line_checked : List (List ℕ) → List (List ℕ) → Result (List ℕ) Refusal
line_checked names images = do
  rs ← releases_in names images
  kept ← all_rules_kept names rs
  accepted_or names (first_not_kept rs)
