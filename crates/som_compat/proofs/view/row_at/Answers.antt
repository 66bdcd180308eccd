use Rattle.std.proofs.Common.{◌<◌, ◌∙◌, sym, ap, subst, arith, length}
use Rattle.som_model.specs.Lists.{Mem}
use Rattle.som_model.specs.Class.{Class}
use Rattle.som_compat.specs.Views.{classes_of}
use Rattle.som_compat.proofs.Placed.{long_classes}
use Rattle.som_compat.proofs.Viewing.{known_of, parent_among, metaclass_among, counted_at}
use Rattle.som_compat.proofs.view.row_at.Goals as goal

pub row_of-requires-clause-count : goal.row_of-requires-clause-count
row_of-requires-clause-count c = (counted_at c.args.lookup.now.faces.now c.args.place c.face.result.now c.requires.conforms c.if-place-lt-KERNEL_CLASSES.false c.requires.place c.face.ensures).parents

pub row_of-requires-clause-parents : goal.row_of-requires-clause-parents
row_of-requires-clause-parents c = λ k m.
    let fs = c.args.lookup.now.faces.now in
    let e = long_classes fs in
    let lt : c.args.place < length (classes_of fs) = omega (arith, e) in
    parent_among (classes_of fs) (known_of fs c.requires.conforms) c.args.place k lt (subst (λ (z : Class). Mem k z.decl.face.parents) (sym c.face.ensures) m)

pub row_of-requires-clause-metaclass : goal.row_of-requires-clause-metaclass
row_of-requires-clause-metaclass c = λ k is.
    let fs = c.args.lookup.now.faces.now in
    let e = long_classes fs in
    let lt : c.args.place < length (classes_of fs) = omega (arith, e) in
    metaclass_among (classes_of fs) (known_of fs c.requires.conforms) c.args.place k lt (ap (λ (z : Class). z.decl.face.metaclass) c.face.ensures ∙ is)
