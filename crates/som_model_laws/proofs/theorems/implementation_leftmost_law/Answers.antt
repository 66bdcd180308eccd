use Rattle.som_model_laws.proofs.Laws.{implementation_leftmost}
use Rattle.som_model_laws.proofs.theorems.implementation_leftmost_law.Goals as goal

pub returns : goal.returns
returns g c h falls tells has_body chosen a x picks own = implementation_leftmost h has_body chosen a picks tells falls own x
