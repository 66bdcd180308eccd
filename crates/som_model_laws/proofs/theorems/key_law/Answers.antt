use Rattle.som_model_laws.proofs.Laws.{key_test}
use Rattle.som_model_laws.proofs.theorems.key_law.Goals as goal

pub returns : goal.returns
returns c a b = key_test a b
