use Rattle.som_sema_local.specs.OwnRules.{text_s12}
use Rattle.som_sema_local.proofs.members.items_differ.Goals as goal

pub returns : goal.returns
returns c = c.each_draft.ensures text_s12 (λ place d r at post. post d at)
