use Rattle.som_cmd_tasks.proofs.TasksEndLaws.{alone}
use Rattle.som_cmd_tasks.proofs.laws.alone_law.Goals as goal

pub returns : goal.returns
returns c = λ r ps turns i p at. alone r ps turns i p at c.meaning_law.ensures c.shown_law.ensures
