use Rattle.som_class_table.proofs.Loading.{target, targets_of}
use Rattle.som_class_table.proofs.loading_laws.made_law.Goals as goal

pub returns-clause-proxy : goal.returns-clause-proxy
returns-clause-proxy c = target

pub returns-clause-numbers : goal.returns-clause-numbers
returns-clause-numbers c = targets_of
