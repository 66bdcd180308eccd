use Rattle.std.proofs.Common.{◌<◌, ℕ}
use Rattle.std.specs.List.{All}
use Rattle.som_test_kernel.proofs.pattern.turns_of.Given as goal

-- each turn so far is the place of a client
abbrev pub invariant-loop-digit : goal.invariant-loop-digit
invariant-loop-digit l = All (λ (turn : ℕ). turn < l.clients) l.turns
