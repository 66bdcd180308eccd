use Rattle.std.proofs.Common.{◌≡◌, ◌<◌, ℕ, [], length, slice_index_or}
use Rattle.som_sema_names.specs.Searching.{IsRow}
use Rattle.som_sema_names.proofs.search.marked_rows.Given as goal

abbrev pub invariant-loop-place : goal.invariant-loop-place
invariant-loop-place l = record {
  long : length l.rows.items ≡ l.place;
  by : (j : ℕ) → j < l.place → IsRow (slice_index_or l.lists j []) (slice_index_or l.rows.items j []);
}
