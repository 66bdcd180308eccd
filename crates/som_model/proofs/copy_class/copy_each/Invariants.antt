use Rattle.std.proofs.Common.{◌≡◌, take}
use Rattle.som_model.proofs.copy_class.copy_each.Given as goal

abbrev pub invariant-loop-item : goal.invariant-loop-item
invariant-loop-item g l = l.copies ≡ take l.item-index l.items
