use Rattle.som_model_laws.proofs.Laws.{ancestors_step}
use Rattle.som_model_laws.proofs.theorems.ancestors_step_law.Goals as goal

pub returns : goal.returns
returns g c h falls x = ancestors_step h falls x
