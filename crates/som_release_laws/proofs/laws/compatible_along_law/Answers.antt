use Rattle.som_release_laws.proofs.Accepting.{along, interface_ordered, itself_kept}
use Rattle.som_release_laws.proofs.laws.compatible_along_law.Goals as goal

pub returns-clause-along : goal.returns-clause-along
returns-clause-along c = λ old mid new a b d. along old mid new (interface_ordered old a) (interface_ordered mid b) (interface_ordered new d)

pub returns-clause-itself : goal.returns-clause-itself
returns-clause-itself c = λ i e. itself_kept i (interface_ordered i e)
