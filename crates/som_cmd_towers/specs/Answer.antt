-- What a command on towers prints and answers, and the files that it leaves, where neither store nor sink fails and memory lasts.
use Rattle.std.specs.Prelude.{ℕ, List, Option}
use Rattle.som_model.specs.Bytes.{Files}
use Rattle.som_cmd_steps.specs.Endings.{Ending}
use Rattle.som_cmd_tower_check.specs.TowerCheckAnswer.{IsTowerCheckAnswer, tower_check_statuses}
use Rattle.som_cmd_tower_make.specs.Statuses.{tower_make_statuses}
use Rattle.som_cmd_tower_make.specs.TowerMakeAnswer.{IsTowerMakeAnswer}
use Rattle.som_cmd_run.specs.RunAnswer.{run_statuses}
use Rattle.som_cmd_tower_run.specs.TowerRunAnswer.{IsTowerRunAnswer}
use Rattle.som_cmd_towers.specs.Asked.{TowerAsked, Make, Compare, RunOn}

-- each by its command
abbrev pub IsTowerAnswer : TowerAsked → Files → Ending → Type 0
IsTowerAnswer (Make out below names) files e = IsTowerMakeAnswer out below names files e
IsTowerAnswer (Compare old new) files e = IsTowerCheckAnswer old new files e
IsTowerAnswer (RunOn client below fuel) files e = IsTowerRunAnswer client below fuel files e

-- the statuses of each
abbrev pub tower_statuses : TowerAsked → List ℕ
tower_statuses (Make out below names) = tower_make_statuses
tower_statuses (Compare old new) = tower_check_statuses
tower_statuses (RunOn client below fuel) = run_statuses
