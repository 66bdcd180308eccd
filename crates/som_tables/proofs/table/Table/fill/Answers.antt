use Rattle.std.specs.Prelude.{Some, slice_set}
use Rattle.som_tables.specs.Rows.{class_with}
use Rattle.som_tables.proofs.Inherited.{inherited_others, inherited_filled, tokens_from_row}
use Rattle.som_tables.proofs.LateRows.{Filled-set}
use Rattle.som_tables.proofs.NextRow.{IsTable-fill}
use Rattle.som_tables.proofs.table.Table.fill.Goals as goal

pub invariant_of-self-2 : goal.invariant_of-self-2
invariant_of-self-2 g c =
    let cs = c.self.inside.rows.items in
    rw (c.put.ensures, c.put-2.ensures, c.number-place.ensures)
    (IsTable-fill cs c.self.inside.lines.items c.self.inside.starts.items c.lay_row.new.starts.items c.self.inside.cells.items c.lay_row.new.cells.items c.args.class c.in_ok-row.row c.in_ok-line.line c.self.invariant
    (rw c.self.view_is c.requires.class) (rw (c.in_ok-row.ensures, c.self.view_is) c.requires.parents) (rw (c.in_ok-row.ensures, c.self.view_is) c.requires.inherited)
    c.in_ok-line.ensures.grown c.in_ok-line.ensures.more c.in_ok-line.ensures.inside (rw c.as_slice.ensures.value at c.in_ok-line.ensures.line))

pub returns-clause-others : goal.returns-clause-others
returns-clause-others g c =
    let cs = c.self.inside.rows.items in
    rw (c.put.ensures, c.number-place.ensures, ← c.self.view_is)
    (inherited_others cs (slice_set cs c.args.class (Some c.in_ok-row.row)) c.args.class c.in_ok-row.row c.self.invariant.laid.order (Filled-set cs c.args.class c.in_ok-row.row (rw c.self.view_is c.requires.class)))

pub returns-clause-row : goal.returns-clause-row
returns-clause-row g c =
    let cs = c.self.inside.rows.items in
    let a = class_with c.args.parents.now c.args.introduced.now c.args.replaced.now in
    rw (c.put.ensures, c.number-place.ensures, c.in_ok-row.ensures, ← c.self.view_is)
    (inherited_filled cs (slice_set cs c.args.class (Some a)) c.args.class a c.self.invariant.laid.order (Filled-set cs c.args.class a (rw c.self.view_is c.requires.class)) (rw c.self.view_is c.requires.parents))

pub returns-clause-tokens : goal.returns-clause-tokens
returns-clause-tokens g c =
    let cs = c.self.inside.rows.items in
    let a = class_with c.args.parents.now c.args.introduced.now c.args.replaced.now in
    rw (c.put.ensures, c.number-place.ensures, c.in_ok-row.ensures, ← c.self.view_is)
    (tokens_from_row cs (slice_set cs c.args.class (Some a)) c.args.class a (rw c.self.view_is c.requires.inherited)
    (inherited_filled cs (slice_set cs c.args.class (Some a)) c.args.class a c.self.invariant.laid.order (Filled-set cs c.args.class a (rw c.self.view_is c.requires.class)) (rw c.self.view_is c.requires.parents)))
