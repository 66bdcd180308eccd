use Rattle.som_interp_dispatch.proofs.NextLaws.{before_found, method_after}
use Rattle.som_interp_dispatch.proofs.choosing.before_body.Goals as goal

pub returns-in-Some-clause-next : goal.returns-in-Some-clause-next
returns-in-Some-clause-next g c xs cs = before_found (g.R.Runtime.linked c.args.runtime.now) (g.R.Classes.made c.args.runtime.now) xs cs c.args.left.now c.args.hooks.now c.requires.hooks c.args.from _ _ c.in-Some.ensures.first

pub returns-in-None-clause-next : goal.returns-in-None-clause-next
returns-in-None-clause-next g c xs cs =
    method_after (g.R.Runtime.linked c.args.runtime.now) (g.R.Classes.made c.args.runtime.now) xs cs c.args.left.now c.args.hooks.now c.requires.hooks c.args.from c.method_body.result c.in-None.ensures.first (c.method_body.ensures.next xs cs)
