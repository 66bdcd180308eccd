use Rattle.som_interp_dispatch.proofs.Owning.{call_usable, me_usable}
use Rattle.som_interp_dispatch.proofs.passed.pass_parent.Goals as goal

pub returns-in-Some-clause-usable : goal.returns-in-Some-clause-usable
returns-in-Some-clause-usable c l made xs cs os from parent method me args = call_usable l made xs cs os _ from (me_usable l made xs os _ _ c.in-Some.is me) parent method args
