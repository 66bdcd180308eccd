use Rattle.std.proofs.Common.{◌≡◌, take}
use Rattle.som_test_examples.proofs.names.classes.Given as goal

abbrev pub invariant-loop-number : goal.invariant-loop-number
invariant-loop-number l = l.classes ≡ take l.number-index l.numbers
