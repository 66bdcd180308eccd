use Rattle.std.proofs.Common.{◌≡◌, ◌++◌, drop}
use Rattle.som_order.specs.Names.{texts}
use Rattle.som_sema_drafts.specs.Items.{metaclass_names}
use Rattle.som_sema_local.proofs.single.add_metaclasses.Given as goal

abbrev pub invariant-loop-item : goal.invariant-loop-item
invariant-loop-item l = texts l.names.items ++ metaclass_names (drop l.item-index l.items) ≡ texts l.fn.names.items ++ metaclass_names l.items
