use Rattle.std.proofs.Common.{◌≡◌, drop}
use Rattle.som_elab_methods.specs.Limits.{limit_passed}
use Rattle.som_sema_drafts.specs.Drafts.{plain_drafts}
use Rattle.som_elab_methods.proofs.limits.limits_kept.Given as goal

abbrev pub invariant-loop-draft : goal.invariant-loop-draft
invariant-loop-draft l = limit_passed (plain_drafts (drop l.draft-index l.drafts)) ≡ limit_passed (plain_drafts l.drafts)
