use Rattle.som_model_laws.proofs.Laws.{descends_step}
use Rattle.som_model_laws.proofs.theorems.descends_step_law.Goals as goal

pub returns : goal.returns
returns g c h falls tells x a = descends_step h tells falls x a
