use Rattle.std.proofs.Common.{ap, inl, refl, subst, sym}
use Rattle.som_meta.specs.declared.plan.MetaPlan.{MetaPlan}
use Rattle.som_meta.specs.declared.plan.MetaPlan.TheVariants as plans
use Rattle.som_meta.specs.Numbering.{AreNumbered, IsNumbered}
use Rattle.som_meta.specs.Planning.{plan_key}
use Rattle.som_class_ids.proofs.Asking.{with_same}
use Rattle.som_class_load_order.specs.Metas.{plan_numbers}
use Rattle.som_class_load_order.proofs.Choosing.{all_mem}
use Rattle.som_class_load_order.proofs.choice.number_planned.Goals as goal

pub derived-requires : goal.derived-requires
derived-requires c = λ n m.
    all_mem (IsNumbered c.args.classes.now) c.in-Derive.parents n (subst (λ (z : MetaPlan). AreNumbered c.args.classes.now (plan_numbers z)) c.in-Derive.is c.requires) m

pub returns-in-Existing-clause-keys : goal.returns-in-Existing-clause-keys
returns-in-Existing-clause-keys c =
    let k = c.args.classes.now in
    let numbered = subst (λ (z : MetaPlan). AreNumbered k (plan_numbers z)) c.in-Existing.is c.requires in
    with_same k (plan_key k c.args.plan) c.in-Existing.class
    (all_mem (IsNumbered k) (plan_numbers (plans.Existing c.in-Existing.class)) c.in-Existing.class numbered (inl refl))
    (sym (ap (plan_key k) c.in-Existing.is))
