use Rattle.som_idl.proofs.Theorem.{one_tree}
use Rattle.som_idl.proofs.laws.one_tree.Goals as goal

pub returns : goal.returns
returns c = one_tree
