use Rattle.std.proofs.Common.{refl}
use Rattle.som_semantics.proofs.laws.kernel_bodies_law.Goals as goal

pub returns-clause-all : goal.returns-clause-all
returns-clause-all c = refl

pub returns-clause-once : goal.returns-clause-once
returns-clause-once c = refl
