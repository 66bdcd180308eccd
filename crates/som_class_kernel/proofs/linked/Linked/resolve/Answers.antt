use Rattle.std.proofs.Common.{ap}
use Rattle.som_class_kernel.specs.Linked.{Linkage}
use Rattle.som_class_kernel.proofs.Answering.{answer_of}
use Rattle.som_class_kernel.proofs.linked.Linked.resolve.Goals as goal

pub returns-clause-body : goal.returns-clause-body
returns-clause-body g c =
    answer_of c.args.self.now c.classes-classes.ensures.linked c.classes-classes.ensures.loaded c.args.class c.requires.made c.args.method c.requires.method
    c.classes-classes.ensures.value (ap (λ (z : Linkage). z.parts.bodies) c.self.view_is) c.resolve.result c.resolve.ensures.body
