use Rattle.som_flat_laws.proofs.Breaches.{flat_breach, flat_exact}
use Rattle.som_flat_laws.proofs.MadeLevels.{made_load}
use Rattle.som_flat_laws.proofs.laws.flat_breach_law.Goals as goal

pub returns-clause-first : goal.returns-clause-first
returns-clause-first c = flat_exact

pub returns-clause-loaded : goal.returns-clause-loaded
returns-clause-loaded c = flat_breach

pub returns-clause-made : goal.returns-clause-made
returns-clause-made c is m = flat_breach is (made_load is m)
