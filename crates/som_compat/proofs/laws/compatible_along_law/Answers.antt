use Rattle.som_compat.proofs.Transitive.{compatible_along}
use Rattle.som_compat.proofs.laws.compatible_along_law.Goals as goal

pub returns : goal.returns
returns c = compatible_along
