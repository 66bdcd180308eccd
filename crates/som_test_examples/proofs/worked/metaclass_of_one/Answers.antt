use Rattle.std.proofs.Common.{◌∙◌, ap, None, List, ℕ, arith}
use Rattle.som_meta.specs.Planning.{plan_of, planned}
use Rattle.som_test_examples.specs.Sample.{sample}
use Rattle.som_test_examples.proofs.Choices.{lower_alone, if_ok, two_numbered}
use Rattle.som_test_examples.proofs.worked.metaclass_of_one.Goals as goal

pub metaclass_of-requires : goal.metaclass_of-requires
metaclass_of-requires c = rw c.in_ok-metas.ensures (two_numbered _ _ (omega arith) (omega arith))

pub returns : goal.returns
returns c = if_ok c.metaclass_of.result _ _ (λ plan is. is ∙ ap (λ (ms : List ℕ). plan_of (planned sample None ms)) c.in_ok-metas.ensures ∙ lower_alone) c.metaclass_of.ensures.plan
