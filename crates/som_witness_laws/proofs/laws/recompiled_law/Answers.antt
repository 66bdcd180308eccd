use Rattle.som_witness_laws.proofs.Clients.{recompiled}
use Rattle.som_witness_laws.proofs.laws.recompiled_law.Goals as goal

pub returns : goal.returns
returns c = recompiled
