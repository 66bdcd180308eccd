use Rattle.std.proofs.Common.{arith}
use Rattle.som_class_kernel.proofs.linked.Linked.reach.Goals as goal

pub invariant_of-self : goal.invariant_of-self
invariant_of-self c =
    let i = c.self.invariant.linked in
    record {
      linked = record {
        others = i.others;
        is = i.is;
        loads = i.loads;
        numbered = i.numbered;
        are = c.make_needed.ensures.parts;
        closed = c.make_needed.ensures.closed;
        kernel_made = λ n lt. c.make_needed.ensures.keeps.made n (i.kernel_made n lt);
      };
      methods = c.self.invariant.methods;
    }

pub make_needed-requires-clause-class : goal.make_needed-requires-clause-class
make_needed-requires-clause-class c = rw (← c.self.view_is) at c.requires

pub make_needed-requires-clause-parts : goal.make_needed-requires-clause-parts
make_needed-requires-clause-parts c = c.self.invariant.linked.are

pub make_needed-requires-clause-closed : goal.make_needed-requires-clause-closed
make_needed-requires-clause-closed c = c.self.invariant.linked.closed

pub make_needed-requires-clause-som_class : goal.make_needed-requires-clause-som_class
make_needed-requires-clause-som_class c = c.self.invariant.linked.kernel_made 1 (omega arith)
