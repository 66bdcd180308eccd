use Rattle.som_release_laws.proofs.Along.{tower_loadable}
use Rattle.som_release_laws.proofs.laws.tower_law.Goals as goal

pub returns : goal.returns
returns c = tower_loadable
