use Rattle.std.proofs.Common.{◌≡◌, ◌++◌, drop, map}
use Rattle.som_model.specs.Class.{entry_name}
use Rattle.som_order.specs.Names.{texts}
use Rattle.som_verify_rules.proofs.members.entry_names.Given as goal

abbrev pub invariant-loop-entry : goal.invariant-loop-entry
invariant-loop-entry l = texts l.names.items ++ map entry_name (drop l.entry-index l.entries) ≡ map entry_name l.entries
