use Rattle.som_class_bodies.proofs.Answering.{all_selected, chosen_more, item_mem, none_chosen}
use Rattle.som_class_bodies.proofs.Facts.{selects}
use Rattle.som_class_bodies.proofs.replaced.declared_cells.Goals as goal

pub loop-method-init : goal.loop-method-init
loop-method-init c = rw c.new-cells.ensures (none_chosen c.args.classes.now c.args.table.now c.args.class c.selecting-methods.result.now)

pub selected_cell-cell-requires-clause-method : goal.selected_cell-cell-requires-clause-method
selected_cell-cell-requires-clause-method c =
    ((selects c.args.classes.now c.requires.loaded c.args.class c.selecting-methods.result.now c.requires.declared c.selecting-methods.ensures).token c.method-item.result
    (item_mem c.selecting-methods.result.now c.loop-method.method-index c.method-item.result c.loop-method-test.true c.method-item.is)).0

pub selected_cell-cell-requires-clause-some : goal.selected_cell-cell-requires-clause-some
selected_cell-cell-requires-clause-some c =
    (selects c.args.classes.now c.requires.loaded c.args.class c.selecting-methods.result.now c.requires.declared c.selecting-methods.ensures).chosen c.method-item.result
    (item_mem c.selecting-methods.result.now c.loop-method.method-index c.method-item.result c.loop-method-test.true c.method-item.is)

pub loop-method-preserved : goal.loop-method-preserved
loop-method-preserved c =
    rw c.in_ok-push.ensures.ok (chosen_more c.args.classes.now c.args.table.now c.args.class c.selecting-methods.result.now c.loop-method.method-index c.method-item.result c.selected_cell-cell.result c.loop-method.cells
    c.loop-method-test.true c.method-item.is c.loop-method.invariant c.selected_cell-cell.ensures)

pub returns : goal.returns
returns c =
    all_selected c.args.classes.now c.args.table.now c.args.class c.selecting-methods.result.now c.loop-method.method-index c.loop-method.cells
    (selects c.args.classes.now c.requires.loaded c.args.class c.selecting-methods.result.now c.requires.declared c.selecting-methods.ensures) c.loop-method-test.false c.loop-method.invariant
