use Rattle.std.proofs.Common.{◌≡◌, ◌++◌, drop}
use Rattle.som_order.specs.Names.{texts}
use Rattle.som_sema_decls.proofs.declared.copies.Given as goal

abbrev pub invariant-loop-name : goal.invariant-loop-name
invariant-loop-name l = l.copies ++ texts (drop l.name-index l.names) ≡ texts l.names
