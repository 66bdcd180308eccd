use Rattle.std.proofs.Common.{◌≡◌, ℕ, ◌+◌, ◌<◌, length, slice_get}
use Rattle.som_tables.specs.Layout.{Extends}
use Rattle.som_tables.proofs.blocks.copy_cells.Given as goal

abbrev pub invariant-loop-place : goal.invariant-loop-place
invariant-loop-place g l = record {
  grown : Extends l.fn.cells.items l.cells.items;
  long : length l.cells.items ≡ length l.fn.cells.items + l.place;
  copied : (p : ℕ) → p < l.place → slice_get l.cells.items (length l.fn.cells.items + p) ≡ slice_get l.fn.cells.items (l.from + p);
}
