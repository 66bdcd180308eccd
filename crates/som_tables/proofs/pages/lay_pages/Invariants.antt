use Rattle.std.proofs.Common.{◌≡◌, length}
use Rattle.som_tables.specs.Layout.{Extends, IsTable, AreInside, ArePages}
use Rattle.som_tables.proofs.pages.lay_pages.Given as goal

abbrev pub invariant-loop-number : goal.invariant-loop-number
invariant-loop-number g l = record {
  grown : Extends l.fn.cells.items l.cells.items;
  more : Extends l.fn.starts.items l.starts.items;
  table : IsTable l.rows l.lines l.starts.items l.cells.items;
  long : length l.pages.items ≡ l.number;
  inside : AreInside l.starts.items l.pages.items;
  pages : ArePages l.rows l.class l.row l.own l.number l.pages.items l.starts.items l.cells.items;
}
