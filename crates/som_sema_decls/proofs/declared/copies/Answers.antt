use Rattle.std.proofs.Common.{List, ℕ}
use Rattle.std.specs.Borrow.{Bor}
use Rattle.som_sema_scope.proofs.Going.{map_end, map_next}
use Rattle.som_sema_decls.proofs.declared.copies.Goals as goal

pub loop-name-preserved : goal.loop-name-preserved
loop-name-preserved c = map_next (λ (b : Bor (List ℕ)). b.now) c.args.names.now c.loop-name.name-index _ _ _ _ _ c.loop-name-test.true c.in_ok-push.ensures.ok c.in_ok-from_slice.ensures c.loop-name.invariant

pub returns : goal.returns
returns c = map_end (λ (b : Bor (List ℕ)). b.now) c.args.names.now c.loop-name.name-index _ _ c.loop-name-test.false c.loop-name.invariant
