use Rattle.som_body.proofs.Theorem.{some_main_answer}
use Rattle.som_body.proofs.laws.some_main_answer.Goals as goal

pub returns : goal.returns
returns c = some_main_answer
