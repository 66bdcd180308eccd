use Rattle.som_cmd.proofs.FuelSpelled.{spelled, asks}
use Rattle.som_cmd.proofs.laws.fuel_law.Goals as goal

pub returns : goal.returns
returns c = λ word n. (spelled word n, asks word n)
