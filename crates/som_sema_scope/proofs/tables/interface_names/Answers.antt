use Rattle.std.proofs.Common.{List, ℕ, ap, refl, subst, ◌∙◌, ◌≡◌}
use Rattle.std.specs.Borrow.{Bor}
use Rattle.std.specs.Prelude.{IfOk}
use Rattle.som_ast.specs.declared.interface.IdlInterface.{IdlInterface}
use Rattle.som_order.specs.Names.{texts}
use Rattle.som_sema_scope.specs.Words.{interface_names, lent, once}
use Rattle.som_sema_scope.proofs.Going.{next_value, rest_end}
use Rattle.som_sema_scope.proofs.tables.interface_names.Goals as goal

pub loop-interface-preserved : goal.loop-interface-preserved
loop-interface-preserved c =
    next_value (λ (z : List (Bor IdlInterface)). interface_names (lent z)) c.args.interfaces.now c.loop-interface.interface-index _ _ (texts c.loop-interface.names.items) _ _ _ _
    c.loop-interface-test.true c.interface-item.is c.in_ok-add.ensures.ok c.as_slice.ensures refl c.loop-interface.invariant

pub returns : goal.returns
returns c =
    subst (λ (z : List (List ℕ)). IfOk c.table_of.result (λ known. texts known.keys ≡ once z))
    (ap texts c.deref.ensures.value
    ∙ rest_end (λ (z : List (Bor IdlInterface)). interface_names (lent z)) c.args.interfaces.now c.loop-interface.interface-index (texts c.loop-interface.names.items) _ c.loop-interface-test.false refl c.loop-interface.invariant)
    c.table_of.ensures
