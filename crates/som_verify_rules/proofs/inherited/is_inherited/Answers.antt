use Rattle.std.proofs.Common.{◌&&◌, sym, ap, ◌∙◌}
use Rattle.som_model.specs.Class.{entry_of, introduced_sig}
use Rattle.std.specs.Prelude.{is_some}
use Rattle.som_order.specs.Names.{texts}
use Rattle.som_verify_classes.specs.Modules.{classes_of}
use Rattle.som_verify_classes.proofs.DeclaredClasses.{known_number}
use Rattle.som_verify_rules.proofs.Inheriting.{from_nobody, inherited_is, not_above}
use Rattle.som_verify_rules.proofs.inherited.is_inherited.Goals as goal

pub returns-in-None : goal.returns-in-None
returns-in-None c =
    let ds = c.args.classes.now in
    from_nobody (classes_of ds) (texts c.args.table.now.keys) c.requires.table c.args.lists.now c.requires.lists c.args.place _ c.args.method.now.class.now c.args.method.now.name.now
    c.requires.place (known_number ds) c.in-None.ensures

pub returns-then-stands_above : goal.returns-then-stands_above
returns-then-stands_above c =
    let ds = c.args.classes.now in
    let f = c.in-Some.ensures in
    ap (λ b. b && c.introduces.result) (sym c.if-stands_above.true)
    ∙ inherited_is (classes_of ds) (texts c.args.table.now.keys) c.requires.table c.args.lists.now c.requires.lists c.args.place c.in-Some.ancestor c.args.method.now.class.now c.args.method.now.name.now
    c.stands_above.result c.introduces.result c.requires.place f.1 f.2 c.stands_above.ensures
    (c.introduces.ensures ∙ ap (λ es. is_some (introduced_sig (entry_of es c.args.method.now.name.now))) c.entries_at.ensures)

pub returns-else-stands_above : goal.returns-else-stands_above
returns-else-stands_above c =
    let ds = c.args.classes.now in
    let f = c.in-Some.ensures in
    not_above (classes_of ds) (texts c.args.table.now.keys) c.requires.table c.args.lists.now c.requires.lists c.args.place c.in-Some.ancestor c.args.method.now.class.now c.args.method.now.name.now
    c.stands_above.result c.requires.place f.1 f.2 c.stands_above.ensures c.if-stands_above.false
