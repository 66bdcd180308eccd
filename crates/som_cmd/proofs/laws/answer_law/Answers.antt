use Rattle.som_cmd.proofs.OneAnswer.{some_answer, one_answer}
use Rattle.som_cmd.specs.Words.{asked}
use Rattle.som_cmd.proofs.WordLaws.{asked_mains}
use Rattle.som_cmd.proofs.laws.answer_law.Goals as goal

pub returns-clause-some : goal.returns-clause-some
returns-clause-some c files words = some_answer files (asked words) (asked_mains words)

pub returns-clause-one : goal.returns-clause-one
returns-clause-one c files asked a b is_a is_b = one_answer files asked a b is_a is_b
