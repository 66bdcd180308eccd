use Rattle.som_witness_laws.proofs.Clients.{refused}
use Rattle.som_witness_laws.proofs.laws.refused_run_law.Goals as goal

pub returns : goal.returns
returns c = refused
