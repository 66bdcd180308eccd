use Rattle.std.proofs.Common.{List, ℕ, length, subst}
use Rattle.som_model_laws.specs.Rows.{AreAncestors}
use Rattle.som_compat_levels.specs.Standing.{classes_of}
use Rattle.som_compat_levels.proofs.Known.{known}
use Rattle.som_compat_levels.proofs.Listing.{are_lists}
use Rattle.som_compat_levels.proofs.tables.tables_of.Goals as goal

pub ancestors-requires : goal.ancestors-requires
ancestors-requires c = λ i p m. c.in_ok-parents.ensures.low i p (rw c.deref.ensures.value at m)

pub returns : goal.returns
returns c =
    let cs = classes_of c.args.classes.now in
    record {
      rows = c.in_ok-parents.ensures;
      lists = are_lists cs (known cs c.requires) c.in_ok-parents.parents.items c.in_ok-ancestors.ancestors.items c.in_ok-parents.ensures
          (subst (λ (z : List (List ℕ)). AreAncestors z (length z) c.in_ok-ancestors.ancestors.items) c.deref.ensures.value c.in_ok-ancestors.ensures);
      metaclasses = c.in_ok-metaclasses.ensures;
      owners = c.in_ok-owners.ensures;
    }
