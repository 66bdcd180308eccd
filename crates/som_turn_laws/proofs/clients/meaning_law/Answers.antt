use Rattle.std.proofs.Common.{refl}
use Rattle.som_model.specs.Classes.{classes}
use Rattle.som_semantics.specs.World.{world}
use Rattle.som_turn_laws.proofs.clients.meaning_law.Goals as goal

pub returns : goal.returns
returns c = λ r p. record { world = world (classes r p); main = p.main; means = λ units. refl }
