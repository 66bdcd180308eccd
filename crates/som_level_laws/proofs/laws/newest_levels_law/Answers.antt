use Rattle.som_level_laws.proofs.Stays.{newest_keep}
use Rattle.som_level_laws.proofs.laws.newest_levels_law.Goals as goal

pub returns : goal.returns
returns c = newest_keep
