use Rattle.som_cmd_main.proofs.Ending.{ends_by, not_begun}
use Rattle.som_cmd_main.proofs.main_run.run_main.Goals as goal

pub returns-in-Ok-clause-ends : goal.returns-in-Ok-clause-ends
returns-in-Ok-clause-ends g c = ends_by _ _ _ _ _ _ _ _ c.in-Ok.finished.outcome c.status_of.result c.in-Ok.ensures.runs c.status_of.ensures

pub returns-in-Err-clause-ends : goal.returns-in-Err-clause-ends
returns-in-Err-clause-ends g c = not_begun _ _ _ _ _ _ _ _ c.in-Err.ensures.untold
