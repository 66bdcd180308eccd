use Rattle.som_elab_laws.proofs.ModuleLaws.{program_says, release_says}
use Rattle.som_elab_laws.proofs.laws.saying_law.Goals as goal

pub returns-clause-release : goal.returns-clause-release
returns-clause-release c = release_says

pub returns-clause-program : goal.returns-clause-program
returns-clause-program c = program_says
