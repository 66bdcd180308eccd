use Rattle.som_model_laws.proofs.Laws.{implementation_step}
use Rattle.som_model_laws.proofs.theorems.implementation_step_law.Goals as goal

pub returns : goal.returns
returns g c h falls has_body chosen a x picks = implementation_step h falls has_body chosen a picks x
