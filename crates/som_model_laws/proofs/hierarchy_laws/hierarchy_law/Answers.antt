use Rattle.som_model_laws.proofs.Standing.{falls, tells}
use Rattle.som_model_laws.proofs.hierarchy_laws.hierarchy_law.Goals as goal

pub returns-clause-lower : goal.returns-clause-lower
returns-clause-lower c = falls

pub returns-clause-apart : goal.returns-clause-apart
returns-clause-apart c = tells
