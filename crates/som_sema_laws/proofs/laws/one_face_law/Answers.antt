use Rattle.som_sema_laws.proofs.OneFace.{one_face, one_variables}
use Rattle.som_sema_laws.proofs.Texts.{names_differ}
use Rattle.som_sema_laws.proofs.laws.one_face_law.Goals as goal

pub returns-clause-face : goal.returns-clause-face
returns-clause-face c = λ module_of cs i names f g said differ p q. one_face module_of cs i names said differ f g p q

pub returns-clause-variables : goal.returns-clause-variables
returns-clause-variables c = one_variables

pub returns-clause-names : goal.returns-clause-names
returns-clause-names c = names_differ
