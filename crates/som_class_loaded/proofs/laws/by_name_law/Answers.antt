use Rattle.som_class_loaded.proofs.Meant.{asked_up_to, found_meant}
use Rattle.som_class_loaded.proofs.laws.by_name_law.Goals as goal

pub returns-clause-found : goal.returns-clause-found
returns-clause-found c = found_meant

pub returns-clause-asked : goal.returns-clause-asked
returns-clause-asked c = asked_up_to
