use Rattle.std.proofs.Common.{◌≡◌, ◌++◌, drop}
use Rattle.som_model.specs.Class.{introduced}
use Rattle.som_order.specs.Names.{texts}
use Rattle.som_verify_rules.specs.Shared.{kept}
use Rattle.som_verify_rules.proofs.shared.shared_of.Given as goal

abbrev pub invariant-loop-entry : goal.invariant-loop-entry
invariant-loop-entry l = texts l.row ++ kept (texts l.shared.keys) (introduced (drop l.entry-index l.entries)) ≡ kept (texts l.shared.keys) (introduced l.entries)
