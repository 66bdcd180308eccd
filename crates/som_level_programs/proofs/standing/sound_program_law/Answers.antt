use Rattle.som_level_programs.proofs.LevelsStand.{levels_stand, program_differs}
use Rattle.som_level_programs.proofs.standing.sound_program_law.Goals as goal

pub returns-clause-differ : goal.returns-clause-differ
returns-clause-differ c = program_differs

pub returns-clause-faces : goal.returns-clause-faces
returns-clause-faces c = levels_stand
