use Rattle.std.proofs.Common.{List, ℕ, map, refl}
use Rattle.std.specs.Borrow.{Bor}
use Rattle.som_order.specs.Names.{texts}
use Rattle.som_verify_classes.specs.Modules.{classes_of}
use Rattle.som_verify_classes.specs.Places.{key_at, with_kernel}
use Rattle.som_sema_decls.specs.Finished.{override_of}
use Rattle.som_sema_scope.proofs.Going.{next_value, rest_end}
use Rattle.som_sema_decls.proofs.declared.each_override.Goals as goal

pub loop-name-preserved : goal.loop-name-preserved
loop-name-preserved c =
    let f = override_of (with_kernel (classes_of c.args.classes.now)) (key_at (with_kernel (classes_of c.args.classes.now)) c.args.place) in
    next_value (λ (z : List (Bor (List ℕ))). map f (texts z)) c.args.names.now c.loop-name.name-index _ _ _ _ _ _ _
    c.loop-name-test.true refl c.in_ok-push.ensures.ok c.in_ok-empty_override.ensures refl c.loop-name.invariant

pub returns : goal.returns
returns c =
    let f = override_of (with_kernel (classes_of c.args.classes.now)) (key_at (with_kernel (classes_of c.args.classes.now)) c.args.place) in
    rest_end (λ (z : List (Bor (List ℕ))). map f (texts z)) c.args.names.now c.loop-name.name-index _ _ c.loop-name-test.false refl c.loop-name.invariant
