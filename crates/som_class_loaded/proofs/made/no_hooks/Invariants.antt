use Rattle.std.proofs.Common.{◌≡◌, length}
use Rattle.som_class_loaded.proofs.made.no_hooks.Given as goal

abbrev pub invariant-loop-number : goal.invariant-loop-number
invariant-loop-number l = length l.hooks.items ≡ l._number
