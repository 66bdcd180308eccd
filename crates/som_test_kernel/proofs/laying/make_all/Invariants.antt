use Rattle.std.proofs.Common.{◌≡◌}
use Rattle.som_test_kernel.proofs.laying.make_all.Given as goal

abbrev pub invariant-loop-number : goal.invariant-loop-number
invariant-loop-number l = l.linked.classes ≡ l.fn.linked.classes
