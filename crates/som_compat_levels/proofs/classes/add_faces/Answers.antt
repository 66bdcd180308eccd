use Rattle.std.proofs.Common.{refl}
use Rattle.som_compat_levels.proofs.Placing.{next_face, no_face}
use Rattle.som_compat_levels.proofs.classes.add_faces.Goals as goal

pub loop-face-preserved : goal.loop-face-preserved
loop-face-preserved c = rw c.in_ok-push.ensures.items (next_face c.loop-face.all.items _ c.args.home c.args.faces.now c.loop-face.face-index _ c.loop-face-test.true refl c.face-item.is c.loop-face.invariant)

pub returns : goal.returns
returns c = no_face c.loop-face.all.items c.args.home c.args.faces.now c.loop-face.face-index _ c.loop-face-test.false c.loop-face.invariant
