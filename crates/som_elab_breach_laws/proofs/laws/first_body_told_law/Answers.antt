use Rattle.som_elab_breach_laws.proofs.Telling.{client_of_first, first_of_client, first_of_library, library_of_first}
use Rattle.som_elab_breach_laws.proofs.laws.first_body_told_law.Goals as goal

pub returns-clause-library : goal.returns-clause-library
returns-clause-library c = λ is bs r. (first_of_library is bs r, library_of_first is bs r)

pub returns-clause-client : goal.returns-clause-client
returns-clause-client c = λ base is bs main r. (first_of_client base is bs main r, client_of_first base is bs main r)
