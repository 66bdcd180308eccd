use Rattle.som_level_laws.proofs.Below.{levels_below}
use Rattle.som_level_laws.proofs.laws.lower_levels_law.Goals as goal

pub returns : goal.returns
returns c = levels_below
