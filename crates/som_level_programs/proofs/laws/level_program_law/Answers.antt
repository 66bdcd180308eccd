use Rattle.som_level_programs.proofs.LevelPrograms.{program_classes, program_compiled}
use Rattle.som_level_programs.proofs.laws.level_program_law.Goals as goal

pub returns-clause-classes : goal.returns-clause-classes
returns-clause-classes c = program_classes

pub returns-clause-compiled : goal.returns-clause-compiled
returns-clause-compiled c = program_compiled
