use Rattle.std.proofs.Common.{◌≡◌, ◌<◌, ℕ, length, slice_index_or}
use Rattle.som_verify_classes.specs.Places.{face_at}
use Rattle.som_compat.specs.declared.rows.Row.{Row}
use Rattle.som_compat.specs.Views.{classes_of, IsRow}
use Rattle.som_compat.proofs.view.fill.Given as goal

abbrev pub invariant-loop-place : goal.invariant-loop-place
invariant-loop-place l = record {
  filled : (p : ℕ) (d : Row) → p < l.place → IsRow (classes_of l.lookup.faces.now) (face_at (classes_of l.lookup.faces.now) p) (slice_index_or l.rows p d);
  long : length l.rows ≡ length l.fn.rows;
}
