use Rattle.som_sema_breach_laws.proofs.OneTold.{one_told}
use Rattle.som_sema_breach_laws.proofs.Telling.{first_told}
use Rattle.som_sema_breach_laws.proofs.TellsFirst.{tells_first}
use Rattle.som_sema_breach_laws.proofs.laws.first_told_law.Goals as goal

pub returns-clause-told : goal.returns-clause-told
returns-clause-told c = λ m base is b. (first_told m base is b, tells_first m base is b)

pub returns-clause-one : goal.returns-clause-one
returns-clause-one c = one_told
