use Rattle.som_interp_dispatch.proofs.Owning.{call_usable, receiver_live, self_usable}
use Rattle.som_interp_dispatch.proofs.passed.pass_offset.Goals as goal

pub returns-in-Ok-clause-usable : goal.returns-in-Ok-clause-usable
returns-in-Ok-clause-usable g c xs cs from method on args = call_usable _ _ xs cs _ _ from (self_usable _ _ _ _ _ _ c.in-Ok.ensures.held on) tt method args

pub returns-in-Ok-clause-live : goal.returns-in-Ok-clause-live
returns-in-Ok-clause-live g c = receiver_live _ _ _ _ _ _ c.requires c.in-Ok.ensures.held c.in-Ok.ensures.means
