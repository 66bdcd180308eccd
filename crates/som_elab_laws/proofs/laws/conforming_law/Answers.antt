use Rattle.som_elab_laws.proofs.ConformLaws.{client_stands, library_stands}
use Rattle.som_elab_laws.proofs.laws.conforming_law.Goals as goal

pub returns-clause-library : goal.returns-clause-library
returns-clause-library c = library_stands

pub returns-clause-client : goal.returns-clause-client
returns-clause-client c = client_stands
