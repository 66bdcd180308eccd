use Rattle.std.proofs.Common.{◌≡◌, ◌+◌, ◌<◌, ℕ, length, slice_index_or, take}
use Rattle.som_compat_levels.proofs.Descent.{AreMarked}
use Rattle.som_compat_levels.proofs.ancestors.mark_all.Given as goal

abbrev pub invariant-loop-place : goal.invariant-loop-place
invariant-loop-place l = record {
  marked : AreMarked l.marks l.mark (take l.place-index l.list);
  below : (k : ℕ) → slice_index_or l.marks k 0 < l.mark + 1;
  long : length l.marks ≡ length l.fn.marks;
}
