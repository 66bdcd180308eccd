use Rattle.som_release_laws.proofs.Prefix.{prefix_grows}
use Rattle.som_release_laws.proofs.laws.growing_law.Goals as goal

pub returns : goal.returns
returns c = prefix_grows
