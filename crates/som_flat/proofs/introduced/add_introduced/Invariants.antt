use Rattle.std.proofs.Common.{◌≡◌, ◌++◌, drop}
use Rattle.som_model.specs.Class.{introduced}
use Rattle.som_order.specs.Names.{texts}
use Rattle.som_flat.proofs.introduced.add_introduced.Given as goal

abbrev pub invariant-loop-entry : goal.invariant-loop-entry
invariant-loop-entry l = texts l.names.items ++ introduced (drop l.entry-index l.entries) ≡ texts l.fn.names.items ++ introduced l.entries
