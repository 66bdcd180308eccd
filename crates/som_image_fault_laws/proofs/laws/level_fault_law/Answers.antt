use Rattle.som_image_fault_laws.proofs.Towers.{level_cut, level_goes_on, level_stops}
use Rattle.som_image_fault_laws.proofs.laws.level_fault_law.Goals as goal

pub returns-clause-stops : goal.returns-clause-stops
returns-clause-stops c = level_stops

pub returns-clause-cut : goal.returns-clause-cut
returns-clause-cut c = level_cut

pub returns-clause-trailing : goal.returns-clause-trailing
returns-clause-trailing c = level_goes_on
