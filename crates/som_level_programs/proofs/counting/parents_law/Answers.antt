use Rattle.som_level_programs.proofs.Counted.{program_parents, release_parents}
use Rattle.som_level_programs.proofs.counting.parents_law.Goals as goal

pub returns-clause-program : goal.returns-clause-program
returns-clause-program c = program_parents

pub returns-clause-release : goal.returns-clause-release
returns-clause-release c = release_parents
