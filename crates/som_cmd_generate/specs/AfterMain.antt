-- What is written after main, and the status, by what main came to.
use Rattle.std.specs.Prelude.{◌≡◌, ℕ, List, Option}
use Rattle.som_interp_task.specs.declared.outcome.Outcome.{Outcome}
use Rattle.som_interp_task.specs.declared.outcome.Outcome.TheVariants as outcomes
use Rattle.som_cmd_generate.specs.GenerateAnswer.{left_line}
use Rattle.som_cmd_generate.specs.Printing.{Prints}

-- how much fuel is left is written where main is over, and nothing elsewhere
abbrev pub EndsAfter : Outcome → ℕ → ℕ → ℕ → Option (List ℕ) → Option (List ℕ) → ℕ → Type 0
EndsAfter outcomes.Done left before now old new status = Prints (left_line left) 0 before now old new status
EndsAfter (outcomes.SourceFault fault at) left before now old new status = (status ≡ 1) × (new ≡ old)
EndsAfter outcomes.Spent left before now old new status = (status ≡ 9) × (new ≡ old)
EndsAfter outcomes.SinkFailed left before now old new status = (status ≡ 8) × (new ≡ old) × (now ≡ before)
EndsAfter outcomes.NoMemory left before now old new status = (status ≡ 10) × (new ≡ old)
