use Rattle.som_body.proofs.Theorem.{one_bodies_answer}
use Rattle.som_body.proofs.laws.one_bodies_answer.Goals as goal

pub returns : goal.returns
returns c = one_bodies_answer
