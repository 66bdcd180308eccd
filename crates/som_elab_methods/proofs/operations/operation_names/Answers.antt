use Rattle.std.proofs.Common.{rules, ◌≡◌, []}
use Rattle.som_order.specs.Names.{texts}
use Rattle.som_elab_methods.proofs.Tabled.{operations_both}
use Rattle.som_elab_methods.proofs.operations.operation_names.Goals as goal

pub returns : goal.returns
returns c =
    let none : texts c.new-names.result.keys ≡ [] = search rules in
    operations_both c.args.text.now c.as_slice.result.now c.as_slice-2.result.now (texts c.new-names.result.keys) (texts c.add_operations.new.names.keys) (texts c.add_operations-2.new.names.keys) none
    c.as_slice.ensures c.as_slice-2.ensures c.in_ok-add_operations.ensures c.in_ok-add_operations-2.ensures
