use Rattle.som_generator.proofs.OneMaking.{one_making}
use Rattle.som_generator.proofs.SomeMaking.{some_making}
use Rattle.som_generator.proofs.laws.making_law.Goals as goal

pub returns-clause-some : goal.returns-clause-some
returns-clause-some c = some_making

pub returns-clause-one : goal.returns-clause-one
returns-clause-one c = one_making
