use Rattle.som_flat_laws.proofs.KeptAbove.{levels_above}
use Rattle.som_flat_laws.proofs.towers.level_above_law.Goals as goal

pub returns : goal.returns
returns c = levels_above
