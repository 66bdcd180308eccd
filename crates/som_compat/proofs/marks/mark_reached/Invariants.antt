use Rattle.std.proofs.Common.{◌≡◌, ◌≤◌, ℕ, [], length, slice_index_or}
use Rattle.som_model.specs.Lists.{Mem}
use Rattle.som_compat.specs.Marks.{Marked, IsReached, lists_of}
use Rattle.som_compat.proofs.marks.mark_reached.Given as goal

abbrev pub invariant-loop-place : goal.invariant-loop-place
invariant-loop-place l = record {
  sound : (x : ℕ) → Marked l.marks x → IsReached l.rows l.fn.marks x;
  whole : (x p : ℕ) → Marked l.marks x → l.place ≤ x → Mem p (slice_index_or (lists_of l.rows) x []) → Marked l.marks p;
  start : (x : ℕ) → Marked l.fn.marks x → Marked l.marks x;
  long : length l.marks ≡ length l.fn.marks;
  within : l.place ≤ l.end;
}

abbrev pub decreases-loop-place : goal.decreases-loop-place
decreases-loop-place l = l.place
