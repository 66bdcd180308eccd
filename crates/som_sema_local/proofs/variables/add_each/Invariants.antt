use Rattle.std.proofs.Common.{◌≡◌, ◌++◌, drop}
use Rattle.som_sema_scope.specs.ClassNames.{module_in_scope, type_of}
use Rattle.som_sema_drafts.specs.Drafts.{variables_of}
use Rattle.som_sema_local.proofs.variables.add_each.Given as goal

abbrev pub invariant-loop-word : goal.invariant-loop-word
invariant-loop-word l = l.all ++ variables_of (type_of (module_in_scope l.scope) l.kind) (drop l.word-index l.names) ≡ l.fn.all ++ variables_of (type_of (module_in_scope l.scope) l.kind) l.names
