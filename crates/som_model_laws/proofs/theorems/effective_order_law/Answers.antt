use Rattle.som_model_laws.proofs.Laws.{introduced_in, listed_once, added_thins}
use Rattle.som_model_laws.proofs.theorems.effective_order_law.Goals as goal

pub returns-clause-introduced : goal.returns-clause-introduced
returns-clause-introduced c listed introduced name m = introduced_in listed introduced name m

pub returns-clause-once : goal.returns-clause-once
returns-clause-once c listed introduced name m k = listed_once listed introduced name m k

pub returns-clause-in_order : goal.returns-clause-in_order
returns-clause-in_order c listed introduced = added_thins listed introduced
