use Rattle.std.proofs.Common.{◌∙◌}
use Rattle.som_test_examples.proofs.Choices.{hooks_both, if_ok}
use Rattle.som_test_examples.proofs.worked.hooks_of_both.Goals as goal

pub returns : goal.returns
returns c = if_ok c.hooks_of.result _ _ (λ hooks is. is ∙ hooks_both) (rw c.new.ensures at c.hooks_of.ensures.keys)
