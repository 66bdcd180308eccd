use Rattle.som_cmd_levels.proofs.Refused.{level_told, levels_told, rules_told, upper_told}
use Rattle.som_cmd_levels.proofs.laws.level_refusal_law.Goals as goal

pub returns-clause-upper : goal.returns-clause-upper
returns-clause-upper c = upper_told

pub returns-clause-level : goal.returns-clause-level
returns-clause-level c = level_told

pub returns-clause-levels : goal.returns-clause-levels
returns-clause-levels c = levels_told

pub returns-clause-rules : goal.returns-clause-rules
returns-clause-rules c = rules_told
