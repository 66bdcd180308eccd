use Rattle.std.proofs.Common.{subst}
use Rattle.som_class_ids.specs.Classes.{classes_of}
use Rattle.som_meta.specs.Numbering.{Numbering}
use Rattle.som_class_kernel.specs.Entries.{AreMethods}
use Rattle.som_class_kernel.proofs.linked.lay.Goals as goal

pub invariant_of-result : goal.invariant_of-result
invariant_of-result c = record {
  linked = record {
    others = classes_of c.args.classes;
    is = c.in_ok-closure.ensures.classes;
    loads = c.requires;
    numbered = c.in_ok-closure.ensures.made;
    are = c.in_ok-parts.ensures.parts;
    closed = c.in_ok-parts.ensures.closed;
    kernel_made = λ n lt. (c.in_ok-parts.ensures.made n).1 lt;
  };
  methods = subst (λ (k : Numbering). AreMethods k c.in_ok-methods.methods) c.classes.ensures.value c.in_ok-methods.ensures;
}
