use Rattle.std.proofs.Common.{◌≡◌, ◌++◌, drop, flat_map}
use Rattle.som_sema_scope.specs.ClassNames.{module_in_scope}
use Rattle.som_sema_drafts.specs.Drafts.{export_variables}
use Rattle.som_sema_local.proofs.variables.add_attributes.Given as goal

abbrev pub invariant-loop-export : goal.invariant-loop-export
invariant-loop-export l = l.all ++ flat_map (export_variables (module_in_scope l.scope)) (drop l.export-index l.exports) ≡ l.fn.all ++ flat_map (export_variables (module_in_scope l.scope)) l.exports
