use Rattle.som_release_laws.proofs.Accepting.{interface_ordered}
use Rattle.som_breach_laws.proofs.Naming.{named_breach}
use Rattle.som_breach_laws.proofs.breaches.named_breach_law.Goals as goal

pub returns : goal.returns
returns c = λ old new b e f le. named_breach old new (interface_ordered old e) b f le
