use Rattle.std.proofs.Common.{◌∙◌}
use Rattle.som_test_examples.proofs.Choices.{forwards_lowest, if_ok}
use Rattle.som_test_examples.proofs.worked.forwards_of_lowest.Goals as goal

pub returns : goal.returns
returns c = if_ok c.forwards.result _ _ (λ tokens is. is ∙ forwards_lowest) (rw c.new.ensures at c.forwards.ensures.methods)
