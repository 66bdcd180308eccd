use Rattle.std.proofs.Common.{List, ℕ, length, subst}
use Rattle.som_model_laws.specs.Rows.{AreAncestors}
use Rattle.som_sema.proofs.ancestry.list_ancestors.Goals as goal

pub ancestors-requires : goal.ancestors-requires
ancestors-requires c = λ i p m. c.in_ok-rows.ensures.rows.low i p (rw c.deref.ensures.value at m)

pub returns : goal.returns
returns c = record {
  lists = record {
    rows = c.in_ok-rows.rows.items;
    are = c.in_ok-rows.ensures.rows;
    lists = subst (λ (z : List (List ℕ)). AreAncestors z (length z) c.in_ok-ancestors.field-0.items) c.deref.ensures.value c.in_ok-ancestors.ensures;
  };
  fault = tt;
}
