use Rattle.std.proofs.Common.{◌≡◌, Some, None, ap, sym, ◌∙◌, subst, true}
use Rattle.som_model.specs.Class.{entry_of, introduced_sig}
use Rattle.som_order.specs.Names.{texts}
use Rattle.som_verify_classes.specs.Modules.{classes_of}
use Rattle.som_verify_forms.specs.Knowing.{all_of}
use Rattle.som_verify_forms.proofs.KnownLaws.{signed_introduced, signed_moved, signed_none}
use Rattle.som_verify_forms.proofs.knowledge.signature_at.Goals as goal

pub returns-in-None-clause-is : goal.returns-in-None-clause-is
returns-in-None-clause-is c =
    let known = c.args.known.now in
    signed_none (classes_of known.classes.now) (texts known.table.now.keys) c.requires.known.table c.args.method.now c.args.place c.requires.place c.requires.class
    (ap (λ es. entry_of es c.args.method.now.name) (sym c.entries_of.ensures) ∙ sym c.in-None.ensures)

pub returns-in-Some-Introduced-clause-is : goal.returns-in-Some-Introduced-clause-is
returns-in-Some-Introduced-clause-is c =
    let known = c.args.known.now in
    signed_introduced (classes_of known.classes.now) (texts known.table.now.keys) c.requires.known.table c.args.method.now c.args.place c.requires.place c.requires.class c.in-Some-Introduced.field-0.now _ c.in-Some-Introduced.sig _
    (ap (λ es. entry_of es c.args.method.now.name) (sym c.entries_of.ensures) ∙ sym c.in-Some-Introduced.ensures) c.in-Some-Introduced.field-0-is

pub returns-in-Some-Introduced-clause-known : goal.returns-in-Some-Introduced-clause-known
returns-in-Some-Introduced-clause-known c =
    c.requires.known.names.signatures c.args.place c.args.method.now.name c.in-Some-Introduced.sig c.requires.place
    (ap introduced_sig (ap (λ es. entry_of es c.args.method.now.name) (sym c.entries_of.ensures) ∙ sym c.in-Some-Introduced.ensures ∙ ap (λ z. Some z) c.in-Some-Introduced.field-0-is))

pub returns-in-Some-Moved-clause-is : goal.returns-in-Some-Moved-clause-is
returns-in-Some-Moved-clause-is c =
    let known = c.args.known.now in
    c.introduced_in.ensures.is
    ∙ signed_moved (classes_of known.classes.now) (texts known.table.now.keys) c.requires.known.table c.args.method.now c.args.place c.requires.place c.requires.class c.requires.known.moved c.in-Some-Moved.field-0.now _ c.in-Some-Moved.to
    (ap (λ es. entry_of es c.args.method.now.name) (sym c.entries_of.ensures) ∙ sym c.in-Some-Moved.ensures) c.in-Some-Moved.field-0-is
