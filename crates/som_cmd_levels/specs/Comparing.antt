-- How it is told what levels don't keep.
use Rattle.std.specs.Prelude.{ℕ, List, Option, Some, None, Result, Ok, Err}
use Rattle.som_model.specs.Compatible.{CompatBreach}
use Rattle.som_order.specs.Names.{name_at}
use Rattle.som_cmd_steps.specs.declared.stop.Refusal.{Refusal}
use Rattle.som_cmd_steps.specs.Lines.{not_kept}

-- all is kept, or the refusal tells what the level of that number doesn't keep, under the name of that level
abbrev pub level_kept_or : List (List ℕ) → Option (ℕ × CompatBreach) → Result (Unit {0}) Refusal
level_kept_or names None = Ok tt
level_kept_or names (Some found) = Err (not_kept (name_at names found.0) found.1)
