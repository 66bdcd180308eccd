use Rattle.som_sema_local.specs.OwnRules.{text_s11}
use Rattle.som_sema_local.proofs.modifiers.modifiers_stand.Goals as goal

pub returns : goal.returns
returns c = c.each_draft.ensures text_s11 (λ place d r at post. post d at)
