use Rattle.som_cmd_tower_run.proofs.TowerRunEndLaws.{means_by, unkept_by}
use Rattle.som_cmd_tower_run.proofs.laws.tower_end_law.Goals as goal

pub returns-clause-means : goal.returns-clause-means
returns-clause-means c files client below base uppers t fuel status left before after u none e = means_by files client below base uppers t u fuel status left before after e none

pub returns-clause-unkept : goal.returns-clause-unkept
returns-clause-unkept c files client below base uppers t fuel status left before after level b u is e = unkept_by files client below base uppers t u fuel status left before after e level b is
