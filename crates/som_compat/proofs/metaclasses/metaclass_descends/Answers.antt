use Rattle.std.proofs.Common.{◌∙◌, sym, ap}
use Rattle.som_model.specs.Classes.{is_a}
use Rattle.som_model.specs.Metaclass.{meta}
use Rattle.som_compat.specs.Views.{classes_of}
use Rattle.som_compat.proofs.Viewing.{known_of}
use Rattle.som_compat.proofs.Declaring.{none_declares}
use Rattle.som_compat.proofs.metaclasses.metaclass_descends.Goals as goal

pub returns-in-Some : goal.returns-in-Some
returns-in-Some c = λ x am above.
    let cs = classes_of c.args.view.now.lookup.faces.now in
    let f = c.in-Some.ensures.finds in
    c.declares_below.ensures x am above ∙ ap (is_a cs (meta cs x)) f.2

pub returns-in-None : goal.returns-in-None
returns-in-None c = λ x am above.
    let cs = classes_of c.args.view.now.lookup.faces.now in
    sym (none_declares cs (known_of c.args.view.now.lookup.faces.now c.requires.view.conforms) x c.args.key.now c.requires.declared c.in-None.ensures.finds)
