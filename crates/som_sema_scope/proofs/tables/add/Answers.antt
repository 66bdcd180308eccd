use Rattle.std.proofs.Common.{List, ℕ}
use Rattle.std.specs.Borrow.{Bor}
use Rattle.som_sema_scope.proofs.Going.{pushed}
use Rattle.som_sema_scope.proofs.tables.add.Goals as goal

pub returns-clause-ok : goal.returns-clause-ok
returns-clause-ok c = pushed (λ (b : Bor (List ℕ)). b.now) _ _ _ c.in_ok-push.ensures.items
