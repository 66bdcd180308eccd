use Rattle.som_body.proofs.Theorem.{one_main_tree}
use Rattle.som_body.proofs.laws.one_main_tree.Goals as goal

pub returns : goal.returns
returns c = one_main_tree
