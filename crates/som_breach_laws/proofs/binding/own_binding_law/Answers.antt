use Rattle.som_breach_laws.proofs.OwnNames.{binds_own, own_binds}
use Rattle.som_breach_laws.proofs.binding.own_binding_law.Goals as goal

pub returns : goal.returns
returns c = λ p r. (binds_own p r, own_binds p r)
