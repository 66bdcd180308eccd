use Rattle.std.proofs.Common.{◌≡◌, ◌++◌, drop}
use Rattle.som_sema_names.specs.Noted.{all_at}
use Rattle.som_sema_drafts.specs.Drafts.{plain_drafts}
use Rattle.som_elab_methods.specs.Texts.{class_places}
use Rattle.som_elab_methods.proofs.named_bodies.class_places.Given as goal

abbrev pub invariant-loop-place : goal.invariant-loop-place
invariant-loop-place l = all_at l.all.items ++ class_places l.place (plain_drafts (drop l.place l.drafts)) ≡ class_places 0 (plain_drafts l.drafts)
