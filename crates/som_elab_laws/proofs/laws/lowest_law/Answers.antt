use Rattle.som_elab_laws.proofs.KeepingLaws.{lower_kept, told_broken}
use Rattle.som_elab_laws.proofs.laws.lowest_law.Goals as goal

pub returns-clause-below : goal.returns-clause-below
returns-clause-below c = λ m base is b conforms e. lower_kept m base is conforms b e

pub returns-clause-broken : goal.returns-clause-broken
returns-clause-broken c = λ m base is b conforms e k. told_broken m base is conforms b e k
