use Rattle.std.proofs.Common.{◌≡◌, ◌++◌, drop, map}
use Rattle.som_order.specs.Names.{texts}
use Rattle.som_sema_drafts.specs.Items.{given_by, is_override, with_modifier}
use Rattle.som_sema_drafts.proofs.tables.with_override.Given as goal

abbrev pub invariant-loop-mark : goal.invariant-loop-mark
invariant-loop-mark l = texts l.names.items ++ with_modifier is_override (map given_by (drop l.mark-index l.marks)) ≡ with_modifier is_override (map given_by l.marks)
