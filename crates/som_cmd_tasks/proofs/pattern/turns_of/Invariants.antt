use Rattle.std.proofs.Common.{◌≡◌, replicate}
use Rattle.std.specs.List.{concat}
use Rattle.som_cmd_tasks.proofs.pattern.turns_of.Given as goal

-- so many rounds are there
abbrev pub invariant-loop-round : goal.invariant-loop-round
invariant-loop-round l = l.turns ≡ concat (replicate l._round l.round.items)
