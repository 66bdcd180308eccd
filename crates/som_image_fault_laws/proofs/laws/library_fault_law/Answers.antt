use Rattle.som_image_fault_laws.proofs.Images.{library_cut, library_goes_on, library_stops}
use Rattle.som_image_fault_laws.proofs.laws.library_fault_law.Goals as goal

pub returns-clause-stops : goal.returns-clause-stops
returns-clause-stops c = library_stops

pub returns-clause-cut : goal.returns-clause-cut
returns-clause-cut c = library_cut

pub returns-clause-trailing : goal.returns-clause-trailing
returns-clause-trailing c = library_goes_on
