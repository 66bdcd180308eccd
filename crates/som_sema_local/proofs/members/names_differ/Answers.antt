use Rattle.som_sema_local.specs.OwnRules.{text_s6}
use Rattle.som_sema_local.proofs.members.names_differ.Goals as goal

pub returns : goal.returns
returns c = c.each_draft.ensures text_s6 (λ place d r at post. post d at)
