use Rattle.som_model_laws.proofs.Keeping.{goes_along, keeps_itself}
use Rattle.som_model_laws.proofs.hierarchy_laws.keeping_law.Goals as goal

pub returns-clause-along : goal.returns-clause-along
returns-clause-along c = goes_along

pub returns-clause-itself : goal.returns-clause-itself
returns-clause-itself c = keeps_itself
