use Rattle.std.proofs.Common.{◌≡◌, ℕ, ◌+◌, ◌<◌, ◌≤◌, drop, length, slice_get}
use Rattle.std.specs.Option.{option_or}
use Rattle.som_tables.specs.Rows.{replaced_at}
use Rattle.som_tables.proofs.blocks.replace_cells.Given as goal

abbrev pub invariant-loop-at : goal.invariant-loop-at
invariant-loop-at g l = record {
  within : l.at ≤ length l.replaced;
  long : length l.cells.items ≡ length l.fn.cells.items;
  kept : (i : ℕ) → i < l.start → slice_get l.cells.items i ≡ slice_get l.fn.cells.items i;
  each : (p : ℕ) → l.start + p < length l.fn.cells.items → slice_get l.cells.items (l.start + p) ≡ option_or (replaced_at (drop l.at l.replaced) (l.class, p)) (slice_get l.fn.cells.items (l.start + p));
}
