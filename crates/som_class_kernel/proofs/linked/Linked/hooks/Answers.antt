use Rattle.std.proofs.Common.{ap}
use Rattle.som_class_kernel.specs.Linked.{Linkage}
use Rattle.som_class_kernel.proofs.Above.{hooks_made, number}
use Rattle.som_class_kernel.proofs.Answering.{hooks_shown}
use Rattle.som_class_kernel.proofs.linked.Linked.hooks.Goals as goal

pub metaclass-metaclass-requires-clause-numbered : goal.metaclass-metaclass-requires-clause-numbered
metaclass-metaclass-requires-clause-numbered c = number c.args.self.now c.classes-classes.ensures.linked c.classes-classes.ensures.loaded c.args.class c.requires

pub returns-clause-made : goal.returns-clause-made
returns-clause-made c = λ n m.
    let l = c.args.self.now in
    let metaclass = c.metaclass-metaclass in
    let same = ap (λ (z : Linkage). z.parts.hooks) c.self.view_is in
    let are = hooks_shown l c.classes-classes.ensures.linked metaclass.result metaclass.ensures.numbered metaclass.ensures.made same c.number.ensures _ c.index.result.now c.index.ensures in
    hooks_made l c.classes-classes.ensures.linked c.classes-classes.ensures.loaded metaclass.result c.index.result.now are.numbered are.keys metaclass.ensures.made n m
