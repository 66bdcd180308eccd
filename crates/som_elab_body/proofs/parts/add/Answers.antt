use Rattle.som_elab_body.proofs.PartLaws.{adds}
use Rattle.som_elab_body.proofs.parts.add.Goals as goal

pub returns : goal.returns
returns c = λ cs are stands. adds cs c.args.parts.now c.args.made _ (rw c.into_inner.ensures at c.in_ok-push.ensures.ok) c.in_ok-push-2.ensures.items are stands
