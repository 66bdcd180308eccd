use Rattle.std.proofs.Common.{◌≡◌, length}
use Rattle.som_class_variables.proofs.places.no_counts.Given as goal

abbrev pub invariant-loop-number : goal.invariant-loop-number
invariant-loop-number l = length l.counts.items ≡ l._number
