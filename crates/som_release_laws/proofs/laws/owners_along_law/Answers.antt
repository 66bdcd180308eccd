use Rattle.som_release_laws.proofs.Along.{kept_to_last, owners_along, owners_itself}
use Rattle.som_release_laws.proofs.laws.owners_along_law.Goals as goal

pub returns-clause-itself : goal.returns-clause-itself
returns-clause-itself c = owners_itself

pub returns-clause-along : goal.returns-clause-along
returns-clause-along c = owners_along

pub returns-clause-list : goal.returns-clause-list
returns-clause-list c = kept_to_last
