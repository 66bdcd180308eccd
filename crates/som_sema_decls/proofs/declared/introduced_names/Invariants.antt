use Rattle.std.proofs.Common.{◌≡◌, ◌++◌, drop}
use Rattle.som_model.specs.Class.{introduced}
use Rattle.som_sema_decls.proofs.declared.introduced_names.Given as goal

abbrev pub invariant-loop-entry : goal.invariant-loop-entry
invariant-loop-entry l = l.names ++ introduced (drop l.entry-index l.entries) ≡ introduced l.entries
