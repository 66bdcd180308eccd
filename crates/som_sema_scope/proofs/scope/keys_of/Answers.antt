use Rattle.std.proofs.Common.{List, ℕ, map, refl}
use Rattle.std.specs.Borrow.{Bor}
use Rattle.som_order.specs.Names.{texts}
use Rattle.som_sema_scope.specs.ClassNames.{module_in_scope, key_of}
use Rattle.som_sema_scope.proofs.Going.{next_value, rest_end}
use Rattle.som_sema_scope.proofs.scope.keys_of.Goals as goal

pub loop-name-preserved : goal.loop-name-preserved
loop-name-preserved c =
    next_value (λ (z : List (Bor (List ℕ))). map (key_of (module_in_scope c.args.scope.now)) (texts z)) c.args.names.now c.loop-name.name-index _ _ _ _ _ _ _
    c.loop-name-test.true refl c.in_ok-push.ensures.ok c.in_ok-key_of.ensures refl c.loop-name.invariant

pub returns : goal.returns
returns c = rest_end (λ (z : List (Bor (List ℕ))). map (key_of (module_in_scope c.args.scope.now)) (texts z)) c.args.names.now c.loop-name.name-index _ _ c.loop-name-test.false refl c.loop-name.invariant
