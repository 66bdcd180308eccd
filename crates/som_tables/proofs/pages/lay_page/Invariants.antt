use Rattle.std.proofs.Common.{◌≡◌, ℕ, ◌<◌, ◌+◌, ◌*◌, length}
use Rattle.som_tables.specs.Layout.{found_at, start_of, Extends, IsLaid, IsStart}
use Rattle.som_tables.proofs.pages.lay_page.Given as goal

abbrev pub invariant-loop-place : goal.invariant-loop-place
invariant-loop-place g l = record {
  grown : Extends l.fn.cells.items l.cells.items;
  laid : IsLaid l.rows (start_of l.lines l.starts) l.cells.items;
  long : length l.page.items ≡ l.place;
  done : (p : ℕ) → p < l.place → IsStart l.rows l.class l.row l.own (found_at l.page.items p) (l.number * 64 + p) l.cells.items;
}
