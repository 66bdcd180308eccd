use Rattle.som_breach_laws.proofs.Moving.{interface_stands, introduced_there}
use Rattle.som_breach_laws.proofs.breaches.signature_breach_law.Goals as goal

pub returns : goal.returns
returns c = λ old new b name eo en. introduced_there old new (interface_stands old eo) (interface_stands new en) b name
