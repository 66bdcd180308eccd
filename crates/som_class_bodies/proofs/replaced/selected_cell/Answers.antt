use Rattle.som_tables.proofs.Inherited.{HasToken_row}
use Rattle.som_class_bodies.proofs.replaced.selected_cell.Goals as goal

pub cell-requires : goal.cell-requires
cell-requires c = c.requires.rows c.args.method c.in-Some.parent c.requires.method c.in-Some.ensures.some.0 c.in-Some.ensures.some.1

pub returns : goal.returns
returns c = record {
  parent = c.in-Some.parent;
  chosen = c.in-Some.ensures.some.1;
  has_row = HasToken_row c.args.table.now c.in-Some.parent c.args.method (c.requires.rows c.args.method c.in-Some.parent c.requires.method c.in-Some.ensures.some.0 c.in-Some.ensures.some.1);
  is = c.cell.ensures;
}
