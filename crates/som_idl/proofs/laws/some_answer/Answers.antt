use Rattle.som_idl.proofs.Theorem.{some_answer}
use Rattle.som_idl.proofs.laws.some_answer.Goals as goal

pub returns : goal.returns
returns c = some_answer
