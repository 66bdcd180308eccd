use Rattle.som_image_fault_laws.proofs.Images.{client_cut, client_goes_on, client_stops}
use Rattle.som_image_fault_laws.proofs.laws.client_fault_law.Goals as goal

pub returns-clause-stops : goal.returns-clause-stops
returns-clause-stops c = client_stops

pub returns-clause-cut : goal.returns-clause-cut
returns-clause-cut c = client_cut

pub returns-clause-trailing : goal.returns-clause-trailing
returns-clause-trailing c = client_goes_on
