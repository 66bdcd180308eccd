use Rattle.som_level_laws.proofs.Stays.{levels_stand, levels_stay}
use Rattle.som_level_laws.proofs.laws.level_stays_law.Goals as goal

pub returns-clause-kept : goal.returns-clause-kept
returns-clause-kept c = levels_stay

pub returns-clause-stands : goal.returns-clause-stands
returns-clause-stands c = levels_stand
