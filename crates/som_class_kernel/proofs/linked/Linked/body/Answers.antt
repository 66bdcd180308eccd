use Rattle.std.proofs.Common.{ap, subst, sym}
use Rattle.som_class_bodies.specs.Bodies.{IsSourced}
use Rattle.som_meta.specs.Numbering.{Numbering}
use Rattle.som_class_kernel.specs.Linked.{Linkage}
use Rattle.som_class_kernel.proofs.Answering.{sourced_at}
use Rattle.som_class_kernel.proofs.linked.Linked.body.Goals as goal

pub held_at-requires : goal.held_at-requires
held_at-requires c =
    subst (λ (z : Numbering). IsSourced z c.body-body.result.now) (sym c.classes-classes.ensures.value)
    (sourced_at c.args.self.now c.classes-classes.ensures.linked (ap (λ (z : Linkage). z.parts.bodies) c.self.view_is) c.body.inside.0 c.body-body.result.now c.body-body.ensures)

pub returns-clause-class : goal.returns-clause-class
returns-clause-class c = (sourced_at c.args.self.now c.classes-classes.ensures.linked (ap (λ (z : Linkage). z.parts.bodies) c.self.view_is) c.body.inside.0 c.body-body.result.now c.body-body.ensures).class

pub returns-clause-method : goal.returns-clause-method
returns-clause-method c = (sourced_at c.args.self.now c.classes-classes.ensures.linked (ap (λ (z : Linkage). z.parts.bodies) c.self.view_is) c.body.inside.0 c.body-body.result.now c.body-body.ensures).method
