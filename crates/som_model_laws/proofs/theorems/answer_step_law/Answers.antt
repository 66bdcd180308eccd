use Rattle.som_model_laws.proofs.Laws.{answer_step}
use Rattle.som_model_laws.proofs.theorems.answer_step_law.Goals as goal

pub returns : goal.returns
returns g c h falls tells has_body chosen a x picks d = answer_step h has_body chosen a picks tells falls x d
