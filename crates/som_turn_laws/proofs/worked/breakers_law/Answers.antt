use Rattle.std.proofs.Common.{refl}
use Rattle.std.specs.Fmt.{digits}
use Rattle.som_turn_laws.proofs.worked.breakers_law.Goals as goal

pub returns-clause-lines : goal.returns-clause-lines
returns-clause-lines c = refl

pub returns-clause-ends : goal.returns-clause-ends
unfolding digits
returns-clause-ends c = refl
