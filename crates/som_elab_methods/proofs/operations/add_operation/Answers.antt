use Rattle.std.proofs.Common.{◌++◌, ◌∷◌, [], sym, subst}
use Rattle.som_order.specs.Names.{texts}
use Rattle.som_elab_methods.specs.Bodies.{operation_name}
use Rattle.som_elab_methods.specs.Tables.{HaveNames}
use Rattle.som_elab_methods.proofs.Grouping.{on_ok}
use Rattle.som_elab_methods.proofs.operations.add_operation.Goals as goal

pub returns-in-Operation : goal.returns-in-Operation
returns-in-Operation c = on_ok c.add_name.result c.add_name.ensures
    (λ h. subst (λ e. HaveNames (texts c.args.names.now.keys ++ operation_name e) (texts c.add_name.new.names.keys)) (sym c.in-Operation.is)
    (subst (λ n. HaveNames (texts c.args.names.now.keys ++ n ∷ []) (texts c.add_name.new.names.keys)) c.as_slice.ensures h))
