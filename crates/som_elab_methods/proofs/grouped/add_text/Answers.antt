use Rattle.std.proofs.Common.{◌≡◌, ◌∙◌, arith, sym}
use Rattle.som_elab_methods.specs.Grouped.{groups_of}
use Rattle.som_order.specs.Names.{texts}
use Rattle.som_elab_methods.proofs.Grouping.{long_groups, new_text, on_ok, placed_text}
use Rattle.som_elab_methods.proofs.grouped.add_text.Goals as goal

pub add_to-requires : goal.add_to-requires
add_to-requires c = omega (arith, c.in-Some.ensures.some.0, c.requires, long_groups c.args.groups.now.items)

pub returns-in-Some : goal.returns-in-Some
returns-in-Some c = λ bs g. on_ok c.add_to.result c.add_to.ensures
    (placed_text bs c.args.text.now (texts c.args.classes.now.keys) (groups_of c.args.groups.now.items) (groups_of c.add_to.new.groups.items) c.in-Some.place c.as_slice-class.result.now g
    c.as_slice-class.ensures c.in-Some.ensures.some.0 c.in-Some.ensures.some.1)

pub returns-in_ok-_is_new-in-None : goal.returns-in_ok-_is_new-in-None
returns-in_ok-_is_new-in-None c = λ bs g. on_ok c.add_group.result c.add_group.ensures
    (new_text bs c.args.text.now (texts c.args.classes.now.keys) (texts c.note_name.new.seen.keys) (groups_of c.args.groups.now.items) (groups_of c.add_group.new.groups.items) c.as_slice-class.result.now c.in_ok-_is_new-in-None._is_new g
    c.as_slice-class.ensures (sym c.in-None.ensures.among) c.in_ok-_is_new-in-None.ensures.is_new c.in_ok-_is_new-in-None.ensures.keys)
