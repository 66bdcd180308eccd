use Rattle.som_level_programs.proofs.LevelsStand.{one_more, stacked_more}
use Rattle.som_level_programs.proofs.standing.one_more_law.Goals as goal

pub returns-clause-stacked : goal.returns-clause-stacked
returns-clause-stacked c = one_more

pub returns-clause-classes : goal.returns-clause-classes
returns-clause-classes c = stacked_more
