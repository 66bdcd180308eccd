use Rattle.som_semantics.proofs.LoopLaws.{while_is, while_told}
use Rattle.som_semantics.proofs.laws.loop_law.Goals as goal

pub returns-clause-done : goal.returns-clause-done
returns-clause-done c condition body frame s = while_is condition body frame s

pub returns-clause-told : goal.returns-clause-told
returns-clause-told c condition body frame add t = while_told condition body frame add t
