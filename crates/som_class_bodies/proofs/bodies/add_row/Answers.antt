use Rattle.std.proofs.Common.{◌-◌, ◌∙◌, length}
use Rattle.som_tables.specs.Rows.{class_with}
use Rattle.som_class_bodies.proofs.Answering.{cells_above, cells_distinct, cells_is, ends_is, few_cells, filled_others, filled_right, filling_at, first_below, front_is, front_right, others_within, second_within, whole_is, whole_right}
use Rattle.som_class_bodies.proofs.bodies.add_row.Goals as goal

pub returns-in_err-add_bodies-clause-bodies : goal.returns-in_err-add_bodies-clause-bodies
returns-in_err-add_bodies-clause-bodies c =
    let f = filling_at c.args.classes.now c.args.table.now c.args.all.now c.args.class c.args.draft c.as_slice-parents.result.now c.parents.result.now c.requires.filling c.as_slice-parents.ensures c.parents.ensures.keys c.parents.ensures.lower in
    (front_right c.args.classes.now c.args.table.now c.args.all.now c.requires.bodies c.args.class c.as_slice-parents.result.now c.args.draft f c.add_bodies.new.all (front_is c.add_bodies.new.all c.args.all.now c.as_slice.result.now c.args.draft.own c.in_err-add_bodies.ensures.err c.as_slice.ensures)).0

pub returns-in_err-add_bodies-clause-earlier : goal.returns-in_err-add_bodies-clause-earlier
returns-in_err-add_bodies-clause-earlier c =
    let f = filling_at c.args.classes.now c.args.table.now c.args.all.now c.args.class c.args.draft c.as_slice-parents.result.now c.parents.result.now c.requires.filling c.as_slice-parents.ensures c.parents.ensures.keys c.parents.ensures.lower in
    (front_right c.args.classes.now c.args.table.now c.args.all.now c.requires.bodies c.args.class c.as_slice-parents.result.now c.args.draft f c.add_bodies.new.all (front_is c.add_bodies.new.all c.args.all.now c.as_slice.result.now c.args.draft.own c.in_err-add_bodies.ensures.err c.as_slice.ensures)).1

pub overflow_sub-second : goal.overflow_sub-second
overflow_sub-second c =
    let is = whole_is c.add_bodies.new.all c.args.all.now c.as_slice.result.now c.as_slice-2.result.now c.args.draft.own c.args.draft.others c.in_ok-add_bodies.ensures.ok c.as_slice.ensures c.as_slice-2.ensures in
    rw (c.len.ensures, c.len-count.ensures) (others_within c.add_bodies.new.all c.args.all.now c.args.draft.own c.args.draft.others is)

pub numbers-requires : goal.numbers-requires
numbers-requires c =
    let f = filling_at c.args.classes.now c.args.table.now c.args.all.now c.args.class c.args.draft c.as_slice-parents.result.now c.parents.result.now c.requires.filling c.as_slice-parents.ensures c.parents.ensures.keys c.parents.ensures.lower in
    let is = whole_is c.add_bodies.new.all c.args.all.now c.as_slice.result.now c.as_slice-2.result.now c.args.draft.own c.args.draft.others c.in_ok-add_bodies.ensures.ok c.as_slice.ensures c.as_slice-2.ensures in
    let ends = ends_is c.len-count.result c.len.result (length c.add_bodies.new.all) (length c.args.draft.others) c.len-count.ensures c.len.ensures in
    first_below c.args.classes.now c.args.table.now c.args.all.now c.requires.bodies c.args.class c.as_slice-parents.result.now c.args.draft f c.add_bodies.new.all is c.len-first.result (c.len-count.result - c.len.result) c.len-first.ensures ends

pub returns-in_err-cells-clause-bodies : goal.returns-in_err-cells-clause-bodies
returns-in_err-cells-clause-bodies c =
    let f = filling_at c.args.classes.now c.args.table.now c.args.all.now c.args.class c.args.draft c.as_slice-parents.result.now c.parents.result.now c.requires.filling c.as_slice-parents.ensures c.parents.ensures.keys c.parents.ensures.lower in
    let is = whole_is c.add_bodies.new.all c.args.all.now c.as_slice.result.now c.as_slice-2.result.now c.args.draft.own c.args.draft.others c.in_ok-add_bodies.ensures.ok c.as_slice.ensures c.as_slice-2.ensures in
    (whole_right c.args.classes.now c.args.table.now c.args.all.now c.requires.bodies c.args.class c.as_slice-parents.result.now c.args.draft f c.add_bodies.new.all is).0

pub returns-in_err-cells-clause-earlier : goal.returns-in_err-cells-clause-earlier
returns-in_err-cells-clause-earlier c =
    let f = filling_at c.args.classes.now c.args.table.now c.args.all.now c.args.class c.args.draft c.as_slice-parents.result.now c.parents.result.now c.requires.filling c.as_slice-parents.ensures c.parents.ensures.keys c.parents.ensures.lower in
    let is = whole_is c.add_bodies.new.all c.args.all.now c.as_slice.result.now c.as_slice-2.result.now c.args.draft.own c.args.draft.others c.in_ok-add_bodies.ensures.ok c.as_slice.ensures c.as_slice-2.ensures in
    (whole_right c.args.classes.now c.args.table.now c.args.all.now c.requires.bodies c.args.class c.as_slice-parents.result.now c.args.draft f c.add_bodies.new.all is).1

pub returns-in_err-add_cells-clause-bodies : goal.returns-in_err-add_cells-clause-bodies
returns-in_err-add_cells-clause-bodies c =
    let f = filling_at c.args.classes.now c.args.table.now c.args.all.now c.args.class c.args.draft c.as_slice-parents.result.now c.parents.result.now c.requires.filling c.as_slice-parents.ensures c.parents.ensures.keys c.parents.ensures.lower in
    let is = whole_is c.add_bodies.new.all c.args.all.now c.as_slice.result.now c.as_slice-2.result.now c.args.draft.own c.args.draft.others c.in_ok-add_bodies.ensures.ok c.as_slice.ensures c.as_slice-2.ensures in
    (whole_right c.args.classes.now c.args.table.now c.args.all.now c.requires.bodies c.args.class c.as_slice-parents.result.now c.args.draft f c.add_bodies.new.all is).0

pub returns-in_err-add_cells-clause-earlier : goal.returns-in_err-add_cells-clause-earlier
returns-in_err-add_cells-clause-earlier c =
    let f = filling_at c.args.classes.now c.args.table.now c.args.all.now c.args.class c.args.draft c.as_slice-parents.result.now c.parents.result.now c.requires.filling c.as_slice-parents.ensures c.parents.ensures.keys c.parents.ensures.lower in
    let is = whole_is c.add_bodies.new.all c.args.all.now c.as_slice.result.now c.as_slice-2.result.now c.args.draft.own c.args.draft.others c.in_ok-add_bodies.ensures.ok c.as_slice.ensures c.as_slice-2.ensures in
    (whole_right c.args.classes.now c.args.table.now c.args.all.now c.requires.bodies c.args.class c.as_slice-parents.result.now c.args.draft f c.add_bodies.new.all is).1

pub add_cells-requires : goal.add_cells-requires
add_cells-requires c =
    let f = filling_at c.args.classes.now c.args.table.now c.args.all.now c.args.class c.args.draft c.as_slice-parents.result.now c.parents.result.now c.requires.filling c.as_slice-parents.ensures c.parents.ensures.keys c.parents.ensures.lower in
    let is = whole_is c.add_bodies.new.all c.args.all.now c.as_slice.result.now c.as_slice-2.result.now c.args.draft.own c.args.draft.others c.in_ok-add_bodies.ensures.ok c.as_slice.ensures c.as_slice-2.ensures in
    let ends = ends_is c.len-count.result c.len.result (length c.add_bodies.new.all) (length c.args.draft.others) c.len-count.ensures c.len.ensures in
    rw c.as_slice-3.ensures (second_within c.args.classes.now c.args.table.now c.args.all.now c.requires.bodies c.args.class c.as_slice-parents.result.now c.args.draft f c.add_bodies.new.all is c.len-first.result (c.len-count.result - c.len.result) c.len-first.ensures ends)

pub fill-requires-clause-places : goal.fill-requires-clause-places
fill-requires-clause-places c =
    let f = filling_at c.args.classes.now c.args.table.now c.args.all.now c.args.class c.args.draft c.as_slice-parents.result.now c.parents.result.now c.requires.filling c.as_slice-parents.ensures c.parents.ensures.keys c.parents.ensures.lower in
    let is = whole_is c.add_bodies.new.all c.args.all.now c.as_slice.result.now c.as_slice-2.result.now c.args.draft.own c.args.draft.others c.in_ok-add_bodies.ensures.ok c.as_slice.ensures c.as_slice-2.ensures in
    let ends = ends_is c.len-count.result c.len.result (length c.add_bodies.new.all) (length c.args.draft.others) c.len-count.ensures c.len.ensures in
    let own_cells = c.as_slice-4.ensures ∙ c.in_ok-cells.ensures in
    let all_cells = cells_is c.as_slice-5.result.now c.args.draft.selected c.add_cells.new.cells (c.len-count.result - c.len.result) c.as_slice-3.result.now c.add_bodies.new.all c.as_slice-5.ensures c.in_ok-add_cells.ensures c.as_slice-3.ensures in
    few_cells c.args.classes.now c.args.table.now c.args.all.now c.requires.bodies c.args.class c.as_slice-parents.result.now c.args.draft f c.add_bodies.new.all is c.len-first.result (c.len-count.result - c.len.result) c.len-first.ensures ends c.as_slice-4.result.now own_cells c.as_slice-5.result.now all_cells

pub fill-requires-clause-parents : goal.fill-requires-clause-parents
fill-requires-clause-parents c =
    let f = filling_at c.args.classes.now c.args.table.now c.args.all.now c.args.class c.args.draft c.as_slice-parents.result.now c.parents.result.now c.requires.filling c.as_slice-parents.ensures c.parents.ensures.keys c.parents.ensures.lower in
    f.below

pub fill-requires-clause-inherited : goal.fill-requires-clause-inherited
fill-requires-clause-inherited c =
    let f = filling_at c.args.classes.now c.args.table.now c.args.all.now c.args.class c.args.draft c.as_slice-parents.result.now c.parents.result.now c.requires.filling c.as_slice-parents.ensures c.parents.ensures.keys c.parents.ensures.lower in
    let is = whole_is c.add_bodies.new.all c.args.all.now c.as_slice.result.now c.as_slice-2.result.now c.args.draft.own c.args.draft.others c.in_ok-add_bodies.ensures.ok c.as_slice.ensures c.as_slice-2.ensures in
    let ends = ends_is c.len-count.result c.len.result (length c.add_bodies.new.all) (length c.args.draft.others) c.len-count.ensures c.len.ensures in
    let own_cells = c.as_slice-4.ensures ∙ c.in_ok-cells.ensures in
    let all_cells = cells_is c.as_slice-5.result.now c.args.draft.selected c.add_cells.new.cells (c.len-count.result - c.len.result) c.as_slice-3.result.now c.add_bodies.new.all c.as_slice-5.ensures c.in_ok-add_cells.ensures c.as_slice-3.ensures in
    cells_above c.args.classes.now c.args.table.now c.args.all.now c.requires.bodies c.args.class c.as_slice-parents.result.now c.args.draft f c.add_bodies.new.all is c.len-first.result (c.len-count.result - c.len.result) c.len-first.ensures ends c.as_slice-4.result.now own_cells c.as_slice-5.result.now all_cells

pub fill-requires-clause-distinct : goal.fill-requires-clause-distinct
fill-requires-clause-distinct c =
    let f = filling_at c.args.classes.now c.args.table.now c.args.all.now c.args.class c.args.draft c.as_slice-parents.result.now c.parents.result.now c.requires.filling c.as_slice-parents.ensures c.parents.ensures.keys c.parents.ensures.lower in
    let is = whole_is c.add_bodies.new.all c.args.all.now c.as_slice.result.now c.as_slice-2.result.now c.args.draft.own c.args.draft.others c.in_ok-add_bodies.ensures.ok c.as_slice.ensures c.as_slice-2.ensures in
    let ends = ends_is c.len-count.result c.len.result (length c.add_bodies.new.all) (length c.args.draft.others) c.len-count.ensures c.len.ensures in
    let own_cells = c.as_slice-4.ensures ∙ c.in_ok-cells.ensures in
    let all_cells = cells_is c.as_slice-5.result.now c.args.draft.selected c.add_cells.new.cells (c.len-count.result - c.len.result) c.as_slice-3.result.now c.add_bodies.new.all c.as_slice-5.ensures c.in_ok-add_cells.ensures c.as_slice-3.ensures in
    cells_distinct c.args.classes.now c.args.table.now c.args.all.now c.requires.bodies c.args.class c.as_slice-parents.result.now c.args.draft f c.add_bodies.new.all is c.len-first.result (c.len-count.result - c.len.result) c.len-first.ensures ends c.as_slice-4.result.now own_cells c.as_slice-5.result.now all_cells

pub returns-in_err-fill-clause-bodies : goal.returns-in_err-fill-clause-bodies
returns-in_err-fill-clause-bodies c =
    let f = filling_at c.args.classes.now c.args.table.now c.args.all.now c.args.class c.args.draft c.as_slice-parents.result.now c.parents.result.now c.requires.filling c.as_slice-parents.ensures c.parents.ensures.keys c.parents.ensures.lower in
    let is = whole_is c.add_bodies.new.all c.args.all.now c.as_slice.result.now c.as_slice-2.result.now c.args.draft.own c.args.draft.others c.in_ok-add_bodies.ensures.ok c.as_slice.ensures c.as_slice-2.ensures in
    rw c.in_err-fill.ensures.err (whole_right c.args.classes.now c.args.table.now c.args.all.now c.requires.bodies c.args.class c.as_slice-parents.result.now c.args.draft f c.add_bodies.new.all is).0

pub returns-in_err-fill-clause-earlier : goal.returns-in_err-fill-clause-earlier
returns-in_err-fill-clause-earlier c =
    let f = filling_at c.args.classes.now c.args.table.now c.args.all.now c.args.class c.args.draft c.as_slice-parents.result.now c.parents.result.now c.requires.filling c.as_slice-parents.ensures c.parents.ensures.keys c.parents.ensures.lower in
    let is = whole_is c.add_bodies.new.all c.args.all.now c.as_slice.result.now c.as_slice-2.result.now c.args.draft.own c.args.draft.others c.in_ok-add_bodies.ensures.ok c.as_slice.ensures c.as_slice-2.ensures in
    (whole_right c.args.classes.now c.args.table.now c.args.all.now c.requires.bodies c.args.class c.as_slice-parents.result.now c.args.draft f c.add_bodies.new.all is).1

pub returns-clause-bodies : goal.returns-clause-bodies
returns-clause-bodies c =
    let f = filling_at c.args.classes.now c.args.table.now c.args.all.now c.args.class c.args.draft c.as_slice-parents.result.now c.parents.result.now c.requires.filling c.as_slice-parents.ensures c.parents.ensures.keys c.parents.ensures.lower in
    let is = whole_is c.add_bodies.new.all c.args.all.now c.as_slice.result.now c.as_slice-2.result.now c.args.draft.own c.args.draft.others c.in_ok-add_bodies.ensures.ok c.as_slice.ensures c.as_slice-2.ensures in
    let ends = ends_is c.len-count.result c.len.result (length c.add_bodies.new.all) (length c.args.draft.others) c.len-count.ensures c.len.ensures in
    let own_cells = c.as_slice-4.ensures ∙ c.in_ok-cells.ensures in
    let all_cells = cells_is c.as_slice-5.result.now c.args.draft.selected c.add_cells.new.cells (c.len-count.result - c.len.result) c.as_slice-3.result.now c.add_bodies.new.all c.as_slice-5.ensures c.in_ok-add_cells.ensures c.as_slice-3.ensures in
    filled_right c.args.classes.now c.args.table.now c.args.all.now c.requires.bodies c.args.class c.as_slice-parents.result.now c.args.draft f c.add_bodies.new.all is c.len-first.result (c.len-count.result - c.len.result) c.len-first.ensures ends c.as_slice-4.result.now own_cells c.as_slice-5.result.now all_cells c.requires.class c.fill.new.self c.in_ok-fill.ensures.filled c.in_ok-fill.ensures.others c.in_ok-fill.ensures.tokens

pub returns-clause-earlier : goal.returns-clause-earlier
returns-clause-earlier c =
    let f = filling_at c.args.classes.now c.args.table.now c.args.all.now c.args.class c.args.draft c.as_slice-parents.result.now c.parents.result.now c.requires.filling c.as_slice-parents.ensures c.parents.ensures.keys c.parents.ensures.lower in
    let is = whole_is c.add_bodies.new.all c.args.all.now c.as_slice.result.now c.as_slice-2.result.now c.args.draft.own c.args.draft.others c.in_ok-add_bodies.ensures.ok c.as_slice.ensures c.as_slice-2.ensures in
    (whole_right c.args.classes.now c.args.table.now c.args.all.now c.requires.bodies c.args.class c.as_slice-parents.result.now c.args.draft f c.add_bodies.new.all is).1

pub returns-clause-filled : goal.returns-clause-filled
returns-clause-filled c =
    (filled_others c.args.table.now c.fill.new.self c.args.class (class_with c.as_slice-parents.result.now c.as_slice-4.result.now c.as_slice-5.result.now) c.requires.class c.in_ok-fill.ensures.filled).0

pub returns-clause-others : goal.returns-clause-others
returns-clause-others c =
    (filled_others c.args.table.now c.fill.new.self c.args.class (class_with c.as_slice-parents.result.now c.as_slice-4.result.now c.as_slice-5.result.now) c.requires.class c.in_ok-fill.ensures.filled).1
