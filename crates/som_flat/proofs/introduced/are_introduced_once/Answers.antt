use Rattle.std.proofs.Common.{◌∙◌, ap, subst, sym}
use Rattle.som_order.specs.Names.{texts}
use Rattle.som_verify_rules.specs.Shared.{Twice}
use Rattle.som_flat.proofs.Once.{none_twice, nothing_is}
use Rattle.som_flat.proofs.introduced.are_introduced_once.Goals as goal

pub returns : goal.returns
returns c = λ t name twice.
    none_twice _ c.in_ok-double.double c.in_ok-double.ensures (nothing_is _ _ c.is_none.ensures t) name
    (subst (Twice name) (sym (ap texts c.deref.ensures.value ∙ c.in_ok-names.ensures)) twice)
