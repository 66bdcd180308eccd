use Rattle.som_elab_program_laws.proofs.OneProgram.{one_program, one_release}
use Rattle.som_elab_program_laws.proofs.laws.one_program_law.Goals as goal

pub returns-clause-release : goal.returns-clause-release
returns-clause-release c = one_release

pub returns-clause-program : goal.returns-clause-program
returns-clause-program c = one_program
