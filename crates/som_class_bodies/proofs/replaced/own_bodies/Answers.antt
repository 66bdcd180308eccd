use Rattle.std.proofs.Common.{◌∙◌}
use Rattle.som_class_bodies.proofs.Answering.{not_overriding, own_answer}
use Rattle.som_class_bodies.proofs.replaced.own_bodies.Goals as goal

pub bodies_for-requires : goal.bodies_for-requires
bodies_for-requires c = λ e. absurd (not_overriding c.args.classes.now c.args.class c.own_way-way.result c.own_way-way.ensures e)

pub returns : goal.returns
returns c =
    own_answer c.args.classes.now c.requires.loaded c.args.class c.requires.numbered c.as_slice.result.now (c.as_slice.ensures ∙ c.introduced.ensures) c.own_way-way.result c.own_way-way.ensures
    c.bodies_for.result c.bodies_for.ensures
