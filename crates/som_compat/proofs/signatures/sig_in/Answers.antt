use Rattle.std.proofs.Common.{◌∙◌, sym, ap, arith}
use Rattle.som_model.specs.Class.{Class, entry_of, introduced_sig}
use Rattle.som_compat.specs.Views.{classes_of}
use Rattle.som_compat.proofs.Viewing.{known_of, sig_at, sig_none}
use Rattle.som_compat.proofs.signatures.sig_in.Goals as goal

pub returns-in-None : goal.returns-in-None
returns-in-None c = sym (sig_none (classes_of c.args.lookup.now.faces.now) (known_of c.args.lookup.now.faces.now c.requires) c.args.class.now c.args.name.now c.in-None.ensures.finds)

pub returns-then-place-lt-KERNEL_CLASSES : goal.returns-then-place-lt-KERNEL_CLASSES
returns-then-place-lt-KERNEL_CLASSES c =
    let cs = classes_of c.args.lookup.now.faces.now in
    let known = known_of c.args.lookup.now.faces.now c.requires in
    let f = c.in-Some.ensures.finds in
    c.kernel_signature.ensures
    ∙ ap (λ (k : Class). introduced_sig (entry_of k.decl.face.entries c.args.name.now)) (sym (known.kernel c.in-Some.place (omega arith)).1)
    ∙ sym (sig_at cs known c.in-Some.place c.args.class.now c.args.name.now f.1 f.2)

pub returns-else-place-lt-KERNEL_CLASSES : goal.returns-else-place-lt-KERNEL_CLASSES
returns-else-place-lt-KERNEL_CLASSES c =
    let cs = classes_of c.args.lookup.now.faces.now in
    let known = known_of c.args.lookup.now.faces.now c.requires in
    let f = c.in-Some.ensures.finds in
    c.declared_signature.ensures
    ∙ ap (λ (k : Class). introduced_sig (entry_of k.decl.face.entries c.args.name.now)) (sym c.face.ensures)
    ∙ sym (sig_at cs known c.in-Some.place c.args.class.now c.args.name.now f.1 f.2)
