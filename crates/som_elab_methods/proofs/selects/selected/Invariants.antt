use Rattle.std.proofs.Common.{◌≡◌, ◌+◌, drop, flat_map, length}
use Rattle.som_elab_methods.specs.Limits.{chosen_at}
use Rattle.som_elab_methods.proofs.selects.selected.Given as goal

abbrev pub invariant-loop-item : goal.invariant-loop-item
invariant-loop-item l = length l.all.items + length (flat_map chosen_at (drop l.item-index l.items)) ≡ length (flat_map chosen_at l.items)
