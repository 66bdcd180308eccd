use Rattle.std.proofs.Common.{ap, arith, sym, ◌∙◌}
use Rattle.som_model.specs.Keys.{same_key}
use Rattle.som_model.specs.Lists.{some}
use Rattle.som_class_ids.specs.declared.keyed.Keyed.{Keyed}
use Rattle.som_test_kernel.proofs.Loading.{plain_more}
use Rattle.som_test_kernel.proofs.levels.declare.Goals as goal

pub returns : goal.returns
returns c = rw c.in_ok-push.ensures.ok (plain_more _ _ _ _ _ _ c.requires c.in_ok-home.ensures (omega (arith, c.if-name.false)) c.in_ok-class.ensures
    (sym c.if-is_there.false ∙ c.is_there.ensures ∙ ap (some (λ (k : Keyed). same_key c.in_ok-class.class.key k.key)) c.as_slice.ensures))
