use Rattle.som_order.specs.Names.{texts}
use Rattle.som_elab_methods.proofs.Tabled.{operations_next}
use Rattle.som_elab_methods.proofs.operations.add_operations.Goals as goal

pub loop-export-preserved : goal.loop-export-preserved
loop-export-preserved c = operations_next c.args.exports.now c.loop-export.export-index c.export-item.result _ (texts c.args.names.now.keys) (texts c.loop-export.names.keys) (texts c.add_operation.new.names.keys)
    c.loop-export-test.true c.export-item.is c.in_ok-add_operation.ensures c.loop-export.invariant
