use Rattle.som_witness_laws.proofs.Parameters.{few}
use Rattle.som_witness_laws.proofs.laws.few_law.Goals as goal

pub returns : goal.returns
returns c = few
