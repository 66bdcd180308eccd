use Rattle.std.proofs.Common.{sym, subst}
use Rattle.som_interp_objects.specs.Acting.{IsAmong}
use Rattle.som_interp_objects.proofs.variables.assign.Goals as goal

pub returns-in-Some-clause-others : goal.returns-in-Some-clause-others
returns-in-Some-clause-others g c = λ ys other. c.assign_on.ensures.others ys (λ m. other (subst (IsAmong ys) (sym c.in-Some.is) m))
