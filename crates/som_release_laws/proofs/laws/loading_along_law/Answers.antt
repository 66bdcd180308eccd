use Rattle.som_release_laws.proofs.Along.{loaded_along}
use Rattle.som_release_laws.proofs.laws.loading_along_law.Goals as goal

pub returns : goal.returns
returns c = loaded_along
