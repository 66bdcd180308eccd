use Rattle.std.proofs.Common.{◌++◌, drop, flat_map}
use Rattle.som_order.specs.Names.{texts}
use Rattle.som_elab_methods.specs.Bodies.{operation_name}
use Rattle.som_elab_methods.specs.Tables.{HaveNames}
use Rattle.som_elab_methods.proofs.operations.add_operations.Given as goal

abbrev pub invariant-loop-export : goal.invariant-loop-export
invariant-loop-export l = HaveNames (texts l.fn.names.keys ++ flat_map operation_name l.exports) (texts l.names.keys ++ flat_map operation_name (drop l.export-index l.exports))
