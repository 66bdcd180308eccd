use Rattle.som_class_methods.proofs.Growing.{growing, growing_owners}
use Rattle.som_class_methods.proofs.laws.growing_law.Goals as goal

pub returns-clause-owners : goal.returns-clause-owners
returns-clause-owners c = growing_owners

pub returns-clause-members : goal.returns-clause-members
returns-clause-members c = growing
