use Rattle.std.proofs.Common.{ap, ◌∙◌}
use Rattle.som_model.specs.Class.{entry_of, introduced_sig}
use Rattle.som_order.specs.Names.{texts}
use Rattle.som_verify_forms.specs.Knowing.{all_of}
use Rattle.som_verify_classes.specs.Modules.{classes_of}
use Rattle.som_verify_forms.proofs.KnownLaws.{sig_nowhere, sig_there, signature_known}
use Rattle.som_verify_forms.proofs.knowledge.introduced_in.Goals as goal

pub returns-in-Some-clause-is : goal.returns-in-Some-clause-is
returns-in-Some-clause-is c =
    let known = c.args.known.now in
    c.introduced_by.ensures
    ∙ ap (λ es. introduced_sig (entry_of es c.args.name.now)) c.entries_of.ensures
    ∙ sig_there (classes_of known.classes.now) (texts known.table.now.keys) c.requires.known.table c.args.class.now c.args.name.now c.in-Some.place c.in-Some.ensures.finds.1 c.in-Some.ensures.finds.2

pub returns-in-Some-clause-known : goal.returns-in-Some-clause-known
returns-in-Some-clause-known c =
    signature_known (all_of c.args.known.now) c.requires.known.names c.in-Some.place c.args.name.now c.introduced_by.result c.in-Some.ensures.finds.1
    (c.introduced_by.ensures ∙ ap (λ es. introduced_sig (entry_of es c.args.name.now)) c.entries_of.ensures)

pub returns-in-None-clause-is : goal.returns-in-None-clause-is
returns-in-None-clause-is c = sig_nowhere (all_of c.args.known.now) c.args.class.now c.args.name.now c.in-None.ensures.finds
