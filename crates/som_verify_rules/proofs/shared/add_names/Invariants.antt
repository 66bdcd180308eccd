use Rattle.std.proofs.Common.{◌≡◌, ◌++◌, drop}
use Rattle.som_order.specs.Names.{texts}
use Rattle.som_verify_rules.proofs.shared.add_names.Given as goal

abbrev pub invariant-loop-name : goal.invariant-loop-name
invariant-loop-name l = texts l.names.items ++ texts (drop l.name-index l.row) ≡ texts l.fn.names.items ++ texts l.row
