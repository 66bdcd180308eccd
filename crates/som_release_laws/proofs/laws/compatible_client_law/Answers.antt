use Rattle.som_release_laws.proofs.Clients.{client_kept}
use Rattle.som_release_laws.proofs.laws.compatible_client_law.Goals as goal

pub returns : goal.returns
returns c = client_kept
