use Rattle.std.proofs.Common.{◌≡◌, ◌<◌, ℕ, length}
use Rattle.som_compat.specs.Marks.{Marked, Above}
use Rattle.som_compat.proofs.marks.mark_below.Given as goal

abbrev pub invariant-loop-place : goal.invariant-loop-place
invariant-loop-place l = record {
  sound : (x : ℕ) → Marked l.marks x → Above l.rows x l.top;
  whole : (x : ℕ) → x < l.place → Above l.rows x l.top → Marked l.marks x;
  long : length l.marks ≡ length l.fn.marks;
}
