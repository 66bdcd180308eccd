use Rattle.som_model_laws.proofs.Laws.{ancestors_once, ancestors_first}
use Rattle.som_model_laws.proofs.theorems.ancestors_once_law.Goals as goal

pub returns-clause-once : goal.returns-clause-once
returns-clause-once g c h tells x = ancestors_once h tells x

pub returns-clause-itself : goal.returns-clause-itself
returns-clause-itself g c h x = ancestors_first h x
