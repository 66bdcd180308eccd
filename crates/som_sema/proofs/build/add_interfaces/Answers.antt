use Rattle.std.proofs.Common.{List, refl}
use Rattle.std.specs.Borrow.{Bor}
use Rattle.som_ast.specs.declared.interface.IdlInterface.{IdlInterface}
use Rattle.som_sema_scope.specs.Words.{lent}
use Rattle.som_sema_scope.proofs.Going.{next, pushed, rest_end}
use Rattle.som_sema.proofs.build.add_interfaces.Goals as goal

pub loop-interface-preserved : goal.loop-interface-preserved
loop-interface-preserved c =
    next (λ (z : List IdlInterface). z) c.args.interfaces.now c.loop-interface.interface-index _ _ (lent c.loop-interface.all.items) _ _ _
    c.loop-interface-test.true c.interface-item.is (pushed (λ (b : Bor IdlInterface). b.now) _ _ _ c.in_ok-push.ensures.items) refl c.loop-interface.invariant

pub returns : goal.returns
returns c = rest_end (λ (z : List IdlInterface). z) c.args.interfaces.now c.loop-interface.interface-index _ _ c.loop-interface-test.false refl c.loop-interface.invariant
