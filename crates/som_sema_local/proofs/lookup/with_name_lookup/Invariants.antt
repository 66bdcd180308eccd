use Rattle.std.proofs.Common.{◌≡◌, ◌++◌, drop, map}
use Rattle.som_order.specs.Names.{texts}
use Rattle.som_sema_drafts.specs.Items.{given_by, is_by_name, with_modifier}
use Rattle.som_sema_local.proofs.lookup.with_name_lookup.Given as goal

abbrev pub invariant-loop-mark : goal.invariant-loop-mark
invariant-loop-mark l = texts l.names.items ++ with_modifier is_by_name (map given_by (drop l.mark-index l.marks)) ≡ with_modifier is_by_name (map given_by l.marks)
