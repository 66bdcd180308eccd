use Rattle.std.proofs.Common.{◌∙◌, ◌+◌, ap}
use Rattle.som_class_kernel.specs.Linked.{Linkage}
use Rattle.som_class_kernel.proofs.Answering.{cost_of, meant_of}
use Rattle.som_class_kernel.proofs.linked.Linked.find.Goals as goal

pub returns-clause-meant : goal.returns-clause-meant
returns-clause-meant g c =
    meant_of c.args.self.now c.classes-classes.ensures.linked c.classes-classes.ensures.loaded c.args.class c.requires c.args.name.now (ap (λ (z : Linkage). z.parts.names) c.self.view_is) c.find.result c.find.ensures.token

pub returns-clause-cost : goal.returns-clause-cost
returns-clause-cost g c =
    c.find.ensures.cost
    ∙ ap (λ z. c.args.steps.now + z) (cost_of c.args.self.now c.classes-classes.ensures.linked c.classes-classes.ensures.loaded c.args.class c.requires c.args.name.now (ap (λ (z : Linkage). z.parts.names) c.self.view_is))
