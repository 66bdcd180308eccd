use Rattle.som_class_variables.proofs.Placing.{proper_above}
use Rattle.som_class_variables.proofs.places.above.Goals as goal

pub returns-clause-keys : goal.returns-clause-keys
returns-clause-keys c = rw c.as_slice.ensures (proper_above c.args.classes.now c.args.class c.ancestors.result.now c.ancestors.ensures.keys)
