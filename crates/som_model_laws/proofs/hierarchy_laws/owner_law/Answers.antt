use Rattle.som_model_laws.proofs.Owners.{owner_owns}
use Rattle.som_model_laws.proofs.hierarchy_laws.owner_law.Goals as goal

pub returns : goal.returns
returns c = owner_owns
