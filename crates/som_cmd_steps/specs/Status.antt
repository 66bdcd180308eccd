-- Statuses.
use Rattle.std.specs.Prelude.{ℕ, ◌==◌, Bool, ◌||◌, List, [], ◌∷◌}
use Rattle.som_cmd_steps.specs.declared.stop.Why.{Why}
use Rattle.som_cmd_steps.specs.declared.output.End.{End}
use Rattle.som_cmd_steps.specs.declared.stop.Why.TheVariants as why
use Rattle.som_cmd_steps.specs.declared.output.End.TheVariants as ends

-- the status of each refusal
abbrev pub status_of : Why → ℕ
status_of why.Texts = 3
status_of why.Incompatible = 4
status_of why.Image = 5
status_of why.Absent = 7
status_of why.Limit = 11

-- the status of each end of a command that no step refuses
abbrev pub end_status : End → ℕ
end_status ends.Done = 0
end_status ends.Spent = 9

-- the statuses that come where neither store nor sink fails
abbrev pub is_calm_status : ℕ → Bool
is_calm_status n = (n == 0) || (n == 1) || (n == 2) || (n == 3) || (n == 4) || (n == 5) || (n == 7) || (n == 9) || (n == 10) || (n == 11)

-- the statuses that any command may end with: the store failed, the sink failed, memory ran out
abbrev pub failing_statuses : List ℕ
failing_statuses = 6 ∷ 8 ∷ 10 ∷ []
