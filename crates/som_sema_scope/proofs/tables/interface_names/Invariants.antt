use Rattle.std.proofs.Common.{◌≡◌, ◌++◌, drop}
use Rattle.som_order.specs.Names.{texts}
use Rattle.som_sema_scope.specs.Words.{interface_names, lent}
use Rattle.som_sema_scope.proofs.tables.interface_names.Given as goal

abbrev pub invariant-loop-interface : goal.invariant-loop-interface
invariant-loop-interface l = texts l.names.items ++ interface_names (lent (drop l.interface-index l.interfaces)) ≡ interface_names (lent l.interfaces)
