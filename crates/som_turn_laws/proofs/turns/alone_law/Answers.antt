use Rattle.std.proofs.Common.{[]}
use Rattle.som_turn_laws.proofs.Taking.{among}
use Rattle.som_turn_laws.proofs.turns.alone_law.Goals as goal

pub returns : goal.returns
returns c = λ clients i is turns. among clients i is [] turns
