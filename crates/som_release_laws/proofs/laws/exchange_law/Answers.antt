use Rattle.som_release_laws.proofs.Exchange.{exchange_grows}
use Rattle.som_release_laws.proofs.Together.{faces_together}
use Rattle.som_release_laws.proofs.laws.exchange_law.Goals as goal

pub returns-clause-grows : goal.returns-clause-grows
returns-clause-grows c = λ olds news own fa fn keep apart. exchange_grows olds news own fa.ordered fn.ordered keep apart

pub returns-clause-faces : goal.returns-clause-faces
returns-clause-faces c = faces_together
