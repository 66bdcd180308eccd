use Rattle.som_sema_laws.proofs.Texts.{program_declares, release_declares}
use Rattle.som_sema_laws.proofs.laws.declaring_law.Goals as goal

pub returns-clause-release : goal.returns-clause-release
returns-clause-release c = release_declares

pub returns-clause-program : goal.returns-clause-program
returns-clause-program c = program_declares
