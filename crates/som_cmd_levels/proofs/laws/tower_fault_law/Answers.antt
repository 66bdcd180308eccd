use Rattle.som_cmd_levels.proofs.TowerFaults.{no_level_want}
use Rattle.som_cmd_levels.proofs.laws.tower_fault_law.Goals as goal

pub returns : goal.returns
returns c = no_level_want
