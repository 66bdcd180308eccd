use Rattle.som_compat.proofs.Released.{may_be_compared}
use Rattle.som_compat.proofs.laws.release_law.Goals as goal

pub returns : goal.returns
returns c = may_be_compared
