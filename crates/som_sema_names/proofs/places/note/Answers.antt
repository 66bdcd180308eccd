use Rattle.som_sema_names.specs.Noted.{at}
use Rattle.som_sema_scope.proofs.Going.{pushed}
use Rattle.som_sema_names.proofs.places.note.Goals as goal

pub returns-clause-ok : goal.returns-clause-ok
returns-clause-ok c = pushed at _ _ _ c.in_ok-push.ensures.items
