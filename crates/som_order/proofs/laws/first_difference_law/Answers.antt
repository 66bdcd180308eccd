use Rattle.som_order.proofs.Parting.{none_is, some_is}
use Rattle.som_order.proofs.laws.first_difference_law.Goals as goal

pub returns-clause-none : goal.returns-clause-none
returns-clause-none c = none_is

pub returns-clause-some : goal.returns-clause-some
returns-clause-some c = some_is
