use Rattle.som_body.proofs.Theorem.{some_bodies_answer}
use Rattle.som_body.proofs.laws.some_bodies_answer.Goals as goal

pub returns : goal.returns
returns c = some_bodies_answer
