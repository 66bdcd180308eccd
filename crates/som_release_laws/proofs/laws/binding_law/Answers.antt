use Rattle.som_release_laws.proofs.Binding.{binds}
use Rattle.som_release_laws.proofs.laws.binding_law.Goals as goal

pub returns : goal.returns
returns c = binds
