use Rattle.std.proofs.Common.{◌≡◌}
use Rattle.som_test_queries.proofs.making.reach_all.Given as goal

abbrev pub invariant-loop-number : goal.invariant-loop-number
invariant-loop-number l = l.kernel.classes ≡ l.fn.kernel.classes
