use Rattle.som_class_variables.proofs.Placing.{places_differ}
use Rattle.som_class_variables.proofs.laws.apart_law.Goals as goal

pub returns : goal.returns
returns c = places_differ
