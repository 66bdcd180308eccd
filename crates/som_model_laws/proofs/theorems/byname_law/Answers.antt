use Rattle.som_model_laws.proofs.Laws.{byname_found, byname_none}
use Rattle.som_model_laws.proofs.theorems.byname_law.Goals as goal

pub returns-clause-found : goal.returns-clause-found
returns-clause-found g c h introduces x a = byname_found h introduces x a

pub returns-clause-none : goal.returns-clause-none
returns-clause-none g c h introduces x = byname_none h introduces x
