use Rattle.som_sema_drafts.specs.Drafts.{plain_drafts}
use Rattle.som_elab.proofs.ContextLaws.{within_context}
use Rattle.som_elab.proofs.all_bodies.within_limits.Goals as goal

pub made_bodies-requires-clause-context : goal.made_bodies-requires-clause-context
made_bodies-requires-clause-context c = within_context c.args.context.now (plain_drafts c.args.drafts.now) c.requires c.in_ok-limits_kept.ensures
