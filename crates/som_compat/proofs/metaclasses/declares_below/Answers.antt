use Rattle.std.proofs.Common.{◌∙◌, ◌||◌, sym, ap, Bool, arith}
use Rattle.som_compat.specs.Told.{some_declares}
use Rattle.som_compat.specs.Views.{classes_of}
use Rattle.som_compat.proofs.Placed.{long_classes}
use Rattle.som_compat.proofs.Viewing.{known_of}
use Rattle.som_compat.proofs.Declaring.{declares_is, or_left}
use Rattle.som_compat.proofs.metaclasses.declares_below.Goals as goal

pub returns-then-is_marked : goal.returns-then-is_marked
returns-then-is_marked c = λ x am above.
    let v = c.args.view.now in
    sym (or_left _ _ (sym c.is_marked.ensures ∙ c.if-is_marked.true))
    ∙ declares_is (classes_of v.lookup.faces.now) (known_of v.lookup.faces.now c.requires.view.conforms) v.rows.now c.requires.view.rows x c.args.top c.args.marks.now c.classes_below-below.result c.requires.top above c.classes_below-below.ensures

pub returns : goal.returns
returns c = λ x am above.
    let v = c.args.view.now in
    c.some_class_declares.ensures
    ∙ (sym (ap (λ (b : Bool). b || some_declares 0 v.rows.now c.args.marks.now c.classes_below-below.result) (sym c.is_marked.ensures ∙ c.if-is_marked.false))
    ∙ declares_is (classes_of v.lookup.faces.now) (known_of v.lookup.faces.now c.requires.view.conforms) v.rows.now c.requires.view.rows x c.args.top c.args.marks.now c.classes_below-below.result c.requires.top above c.classes_below-below.ensures)

pub some_class_declares-requires : goal.some_class_declares-requires
some_class_declares-requires c =
    let v = c.args.view.now in let e = long_classes v.lookup.faces.now in let f = c.requires.view.conforms.classes in let g = c.requires.view.rows.long in omega (arith, e, f, g)
