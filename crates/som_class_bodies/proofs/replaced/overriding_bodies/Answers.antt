use Rattle.som_class_bodies.proofs.Answering.{override_answer}
use Rattle.som_class_bodies.proofs.Facts.{overrides}
use Rattle.som_class_bodies.proofs.replaced.overriding_bodies.Goals as goal

pub bodies_for-requires : goal.bodies_for-requires
bodies_for-requires c = λ e. (overrides c.args.classes.now c.requires.loaded c.args.class c.overridden.result.now c.requires.declared c.overridden.ensures).1

pub returns : goal.returns
returns c = override_answer c.args.classes.now c.requires.loaded c.args.class c.requires.declared c.overridden.result.now c.overridden.ensures c.bodies_for.result c.bodies_for.ensures
