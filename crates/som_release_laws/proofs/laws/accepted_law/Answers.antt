use Rattle.som_release_laws.proofs.Clients.{accepted_kept}
use Rattle.som_release_laws.proofs.laws.accepted_law.Goals as goal

pub returns : goal.returns
returns c = accepted_kept
