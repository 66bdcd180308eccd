use Rattle.som_flat.proofs.Leveled.{breach_told}
use Rattle.som_flat.proofs.laws.leveled_breach_law.Goals as goal

pub returns : goal.returns
returns c = breach_told
