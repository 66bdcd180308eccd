use Rattle.std.proofs.Common.{refl}
use Rattle.som_verify_classes.proofs.Declaring.{declared_all, declared_more}
use Rattle.som_verify_parents.proofs.standing.declare.Goals as goal

pub loop-decl-preserved : goal.loop-decl-preserved
loop-decl-preserved c = rw c.in_ok-push.ensures.items
    (declared_more c.args.home c.loop-decl.all.items _ c.args.classes.now c.loop-decl.decl-index c.decl-item.result _ c.loop-decl-test.true c.decl-item.is refl c.loop-decl.invariant)

pub returns : goal.returns
returns c = declared_all c.args.home c.loop-decl.all.items c.args.classes.now c.loop-decl.decl-index _ c.loop-decl-test.false c.loop-decl.invariant
