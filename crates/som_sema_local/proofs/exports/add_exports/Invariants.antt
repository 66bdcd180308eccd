use Rattle.std.proofs.Common.{◌≡◌, ◌++◌, drop, flat_map}
use Rattle.som_order.specs.Names.{texts}
use Rattle.som_sema_scope.specs.ClassNames.{module_in_scope}
use Rattle.som_sema_drafts.specs.Drafts.{export_entries}
use Rattle.som_sema_local.proofs.exports.add_exports.Given as goal

abbrev pub invariant-loop-export : goal.invariant-loop-export
invariant-loop-export l = l.entries ++ flat_map (export_entries (module_in_scope l.scope) (texts l.by_name.keys)) (drop l.export-index l.exports)
    ≡ l.fn.entries ++ flat_map (export_entries (module_in_scope l.scope) (texts l.by_name.keys)) l.exports
