use Rattle.std.proofs.Common.{◌≡◌, ◌++◌, drop, flat_map}
use Rattle.som_sema_scope.specs.ClassNames.{module_in_scope}
use Rattle.som_sema_drafts.specs.Drafts.{item_variables}
use Rattle.som_sema_local.proofs.variables.add_declared.Given as goal

abbrev pub invariant-loop-item : goal.invariant-loop-item
invariant-loop-item l = l.all ++ flat_map (item_variables (module_in_scope l.scope)) (drop l.item-index l.items) ≡ l.fn.all ++ flat_map (item_variables (module_in_scope l.scope)) l.items
