use Rattle.std.proofs.Common.{◌≡◌, ℕ, List, ap, subst, ◌∙◌}
use Rattle.std.specs.Prelude.{IfOk}
use Rattle.som_order.specs.Names.{texts}
use Rattle.som_sema_drafts.specs.Items.{or_object}
use Rattle.som_sema_scope.specs.Words.{once}
use Rattle.som_sema.proofs.inherited.parent_table.Goals as goal

pub returns : goal.returns
returns c =
    subst (λ (z : List (List ℕ)). IfOk c.table_of.result (λ parents. texts parents.keys ≡ once z))
    (ap texts c.deref.ensures.value ∙ c.in_ok-names.ensures ∙ ap or_object c.as_slice.ensures) c.table_of.ensures
