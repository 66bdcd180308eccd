use Rattle.std.proofs.Common.{◌≡◌, ◌++◌, drop}
use Rattle.som_sema_scope.specs.ClassNames.{module_in_scope}
use Rattle.som_sema_drafts.specs.Drafts.{param_types}
use Rattle.som_sema_local.proofs.exports.kinds.Given as goal

abbrev pub invariant-loop-param : goal.invariant-loop-param
invariant-loop-param l = l.kinds ++ param_types (module_in_scope l.scope) (drop l.param-index l.params) ≡ param_types (module_in_scope l.scope) l.params
