use Rattle.std.proofs.Common.{◌≡◌, ◌++◌, drop}
use Rattle.som_sema_drafts.specs.Drafts.{plain_drafts}
use Rattle.som_elab_methods.specs.OwnDrafts.{drafts_in}
use Rattle.som_elab_methods.proofs.named_bodies.own_methods.Given as goal

abbrev pub invariant-loop-draft : goal.invariant-loop-draft
invariant-loop-draft l = drafts_in l.all.items ++ plain_drafts (drop l.draft-index l.drafts) ≡ plain_drafts l.drafts
