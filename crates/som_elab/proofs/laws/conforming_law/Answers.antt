use Rattle.som_elab.proofs.Conforms.{program_conforms, release_conforms}
use Rattle.som_elab.proofs.laws.conforming_law.Goals as goal

pub returns-clause-release : goal.returns-clause-release
returns-clause-release c = release_conforms

pub returns-clause-program : goal.returns-clause-program
returns-clause-program c = program_conforms
