use Rattle.std.proofs.Common.{◌≡◌, length}
use Rattle.som_compat_levels.proofs.owners.entry_orders.Given as goal

abbrev pub invariant-loop-class : goal.invariant-loop-class
invariant-loop-class l = length l.all.items ≡ l.class-index
