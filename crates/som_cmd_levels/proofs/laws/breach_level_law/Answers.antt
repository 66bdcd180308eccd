use Rattle.som_cmd_levels.proofs.Breaching.{at_level}
use Rattle.som_cmd_levels.proofs.laws.breach_level_law.Goals as goal

pub returns : goal.returns
returns c = at_level
