use Rattle.som_model_laws.proofs.Laws.{ancestors, descends_test}
use Rattle.som_model_laws.proofs.theorems.ancestors_law.Goals as goal

pub returns-clause-members : goal.returns-clause-members
returns-clause-members g c h falls tells x a = ancestors h tells falls x a

pub returns-clause-test : goal.returns-clause-test
returns-clause-test g c h falls tells x a = descends_test h tells falls x a
