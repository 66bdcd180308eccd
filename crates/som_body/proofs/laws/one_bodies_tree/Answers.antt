use Rattle.som_body.proofs.Theorem.{one_bodies_tree}
use Rattle.som_body.proofs.laws.one_bodies_tree.Goals as goal

pub returns : goal.returns
returns c = one_bodies_tree
