use Rattle.std.proofs.Common.{◌≡◌, ◌↔◌, ◌<◌, ℕ, length}
use Rattle.som_compat.specs.Marks.{Marked}
use Rattle.som_model.specs.Ancestors.{Descends}
use Rattle.som_model_laws.specs.Rows.{rows_of}
use Rattle.som_compat_levels.proofs.metaclasses.mark_below.Given as goal

abbrev pub invariant-loop-place : goal.invariant-loop-place
invariant-loop-place l = record {
  below : (k : ℕ) → k < l.place → Marked l.below k ↔ Descends (rows_of l.rows) k l.top;
  long : length l.below ≡ length l.fn.below;
}
