use Rattle.std.proofs.Common.{subst}
use Rattle.som_trace.specs.declared.running.Place.TheVariants as places
use Rattle.som_interp_invoke.specs.Beginning.{StopsAt}
use Rattle.som_interp_invoke.proofs.beginning.begin.Goals as goal

pub returns-clause-unspent : goal.returns-clause-unspent
returns-clause-unspent g c e = subst (StopsAt (places.Body c.args.begun.class c.args.begun.method)) e (c.begin_what.ensures.began 0).stops

pub returns-clause-unsunk : goal.returns-clause-unsunk
returns-clause-unsunk g c e = subst (StopsAt (places.Body c.args.begun.class c.args.begun.method)) e (c.begin_what.ensures.began 0).stops
