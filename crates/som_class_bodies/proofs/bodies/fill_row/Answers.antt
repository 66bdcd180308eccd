use Rattle.som_class_bodies.proofs.Answering.{cut_back, kept_bodies, numbered_row, same_extends}
use Rattle.som_class_bodies.proofs.Facts.{chosen_rows, fills}
use Rattle.som_class_bodies.proofs.bodies.fill_row.Goals as goal

pub drafted-requires-clause-numbered : goal.drafted-requires-clause-numbered
drafted-requires-clause-numbered c = numbered_row c.args.classes.now c.args.table.now c.args.all.now c.requires.bodies c.args.class c.requires.class

pub drafted-requires-clause-chosen : goal.drafted-requires-clause-chosen
drafted-requires-clause-chosen c = chosen_rows c.args.classes.now c.know_loaded.ensures c.args.table.now c.args.all.now c.requires.bodies c.args.class c.requires.parents

pub add_row-requires-clause-numbered : goal.add_row-requires-clause-numbered
add_row-requires-clause-numbered c = numbered_row c.args.classes.now c.args.table.now c.args.all.now c.requires.bodies c.args.class c.requires.class

pub add_row-requires-clause-filling : goal.add_row-requires-clause-filling
add_row-requires-clause-filling c = λ parents keys lower.
    fills c.args.classes.now c.know_loaded.ensures c.args.table.now c.args.all.now c.requires.bodies c.args.class
    (numbered_row c.args.classes.now c.args.table.now c.args.all.now c.requires.bodies c.args.class c.requires.class) parents keys lower c.requires.parents c.in_ok-draft.draft c.in_ok-draft.ensures

pub returns-in-Err-clause-bodies : goal.returns-in-Err-clause-bodies
returns-in-Err-clause-bodies c = kept_bodies c.args.classes.now c.args.table.now c.add_row.new.table c.args.all.now c.cut.new.all c.requires.bodies c.in-Err.ensures.err (cut_back c.args.all.now c.add_row.new.all c.cut.new.all c.len-count.result c.in-Err.ensures.earlier c.len-count.ensures c.cut.ensures)

pub returns-in-Err-clause-earlier : goal.returns-in-Err-clause-earlier
returns-in-Err-clause-earlier c = same_extends c.args.all.now c.cut.new.all (cut_back c.args.all.now c.add_row.new.all c.cut.new.all c.len-count.result c.in-Err.ensures.earlier c.len-count.ensures c.cut.ensures)

pub returns-in-Err-clause-bodies_stay : goal.returns-in-Err-clause-bodies_stay
returns-in-Err-clause-bodies_stay c = (cut_back c.args.all.now c.add_row.new.all c.cut.new.all c.len-count.result c.in-Err.ensures.earlier c.len-count.ensures c.cut.ensures)
