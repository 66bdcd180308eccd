use Rattle.som_idl.proofs.Theorem.{one_answer}
use Rattle.som_idl.proofs.laws.one_answer.Goals as goal

pub returns : goal.returns
returns c = one_answer
