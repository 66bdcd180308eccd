use Rattle.som_cmd_tower_make.proofs.TowerEndLaws.{puts_level_by}
use Rattle.som_cmd_tower_make.proofs.laws.made_level_law.Goals as goal

pub returns : goal.returns
returns c = λ files out first others names l status new_files old new count now m few e left. puts_level_by files first others names l m few out status new_files old new e count now left
