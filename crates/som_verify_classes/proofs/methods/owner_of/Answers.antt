use Rattle.std.proofs.Common.{◌+◌, length, sym, ap, ◌∙◌}
use Rattle.som_model.specs.Class.{entry_of}
use Rattle.som_order.specs.Names.{texts}
use Rattle.som_verify_classes.specs.Inherited.{moved_to}
use Rattle.som_verify_classes.specs.Modules.{classes_of}
use Rattle.som_verify_classes.specs.Places.{with_kernel}
use Rattle.som_verify_classes.proofs.DeclaredClasses.{known_number}
use Rattle.som_verify_classes.proofs.Owners.{owner_unknown, owner_here, owner_moved}
use Rattle.som_verify_classes.proofs.methods.owner_of.Goals as goal

pub returns-in-None : goal.returns-in-None
returns-in-None c =
    let ds = c.args.classes.now in
    sym (owner_unknown (with_kernel (classes_of ds)) c.args.method.now (length ds + 4) (known_number ds) c.in-None.ensures)

pub returns-in-None-moved_to : goal.returns-in-None-moved_to
returns-in-None-moved_to c =
    let ds = c.args.classes.now in
    let f = c.in-Some.ensures in
    sym (owner_here (classes_of ds) (texts c.args.table.now.keys) c.requires.table c.in-Some.place c.args.method.now f.1 f.2
    (ap (λ es. moved_to (entry_of es c.args.method.now.name)) (sym c.entries_at.ensures) ∙ sym c.in-None-moved_to.ensures))

pub returns-in-Some-moved_to : goal.returns-in-Some-moved_to
returns-in-Some-moved_to c =
    let ds = c.args.classes.now in
    let f = c.in-Some.ensures in
    sym (owner_moved (classes_of ds) (texts c.args.table.now.keys) c.requires.table c.requires.moved c.in-Some.place c.args.method.now c.in-Some-moved_to.to.now f.1 f.2
    (ap (λ es. moved_to (entry_of es c.args.method.now.name)) (sym c.entries_at.ensures) ∙ sym c.in-Some-moved_to.ensures))
