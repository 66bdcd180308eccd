use Rattle.som_elab_laws.proofs.SourceLaws.{client_law, library_law}
use Rattle.som_elab_laws.proofs.laws.sources_law.Goals as goal

pub returns-clause-library : goal.returns-clause-library
returns-clause-library c = library_law

pub returns-clause-client : goal.returns-clause-client
returns-clause-client c = client_law
