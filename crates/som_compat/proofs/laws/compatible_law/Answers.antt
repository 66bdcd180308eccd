use Rattle.som_compat.proofs.Plain.{keeps, kept}
use Rattle.som_compat.proofs.laws.compatible_law.Goals as goal

pub returns : goal.returns
returns c = λ old new o n. (keeps old new o n, kept old new o n)
