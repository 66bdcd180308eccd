use Rattle.som_flat_laws.proofs.MadeLevels.{made_load}
use Rattle.som_flat_laws.proofs.laws.made_levels_law.Goals as goal

pub returns : goal.returns
returns c = made_load
