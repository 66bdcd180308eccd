use Rattle.som_class_table.proofs.Loading.{can_be_laid, can_lay}
use Rattle.som_class_table.proofs.loading_laws.lay_law.Goals as goal

pub returns-clause-keys : goal.returns-clause-keys
returns-clause-keys c = can_be_laid

pub returns-clause-numbers : goal.returns-clause-numbers
returns-clause-numbers c = can_lay
