use Rattle.std.proofs.Common.{◌∙◌}
use Rattle.som_interp_dispatch.proofs.NextLaws.{asked_is, method_found}
use Rattle.som_interp_dispatch.proofs.choosing.method_body.Goals as goal

pub returns-clause-next : goal.returns-clause-next
returns-clause-next g c xs cs =
    method_found _ _ _ _ c.know.ensures.agree xs cs c.args.left.now c.resolve.result c.unwrap_or-class.result c.rest_after.result
    (c.unwrap_or-class.ensures ∙ asked_is c.args.left.now.class c.args.left.now.call.parent) c.resolve.ensures.body (c.rest_after.ensures.rest _ _ (c.requires.hooks.are xs cs))
