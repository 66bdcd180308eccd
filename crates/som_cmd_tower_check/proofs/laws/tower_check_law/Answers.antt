use Rattle.som_cmd_tower_check.proofs.CheckEndLaws.{level_accepted_by, level_breach_by}
use Rattle.som_cmd_tower_check.proofs.laws.tower_check_law.Goals as goal

pub returns-clause-accepted : goal.returns-clause-accepted
returns-clause-accepted c = level_accepted_by

pub returns-clause-breach : goal.returns-clause-breach
returns-clause-breach c = level_breach_by
