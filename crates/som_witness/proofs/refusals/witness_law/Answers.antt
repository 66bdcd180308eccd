use Rattle.som_release_laws.proofs.Accepting.{interface_ordered}
use Rattle.som_breach_laws.proofs.Breaking.{first_told}
use Rattle.som_breach_laws.proofs.Moving.{interface_stands}
use Rattle.som_witness.proofs.Clients.{shows}
use Rattle.som_witness.proofs.Holding.{interface_holds}
use Rattle.som_witness.proofs.refusals.witness_law.Goals as goal

pub returns : goal.returns
returns c = λ old new b small eo en told. shows old new (interface_stands old eo) (interface_stands new en) (interface_holds old eo) small b (first_told old new (interface_ordered new en) b told)
