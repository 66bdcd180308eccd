use Rattle.som_interp_dispatch.proofs.Owning.{receiver_live, self_had}
use Rattle.som_interp_dispatch.proofs.passed.named.Goals as goal

pub method_of-requires-clause-live : goal.method_of-requires-clause-live
method_of-requires-clause-live g c = receiver_live _ _ _ _ _ _ c.requires c.in_ok-me.ensures.held c.in_ok-me.ensures.means

pub method_of-requires-clause-owner : goal.method_of-requires-clause-owner
method_of-requires-clause-owner g c = self_had _ _ _ _ _ _ c.requires c.in_ok-me.ensures.held

pub returns-clause-live : goal.returns-clause-live
returns-clause-live g c = receiver_live _ _ _ _ _ _ c.requires c.in_ok-me.ensures.held c.in_ok-me.ensures.means
