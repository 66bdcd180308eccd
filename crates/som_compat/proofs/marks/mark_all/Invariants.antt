use Rattle.std.proofs.Common.{◌≡◌, ◌↔◌, ◌⊎◌, ℕ, take, length}
use Rattle.som_compat.specs.Marks.{Marked}
use Rattle.som_model.specs.Lists.{Mem}
use Rattle.som_compat.proofs.marks.mark_all.Given as goal

abbrev pub invariant-loop-p : goal.invariant-loop-p
invariant-loop-p l = record {
  marked : (k : ℕ) → Marked l.marks k ↔ (Marked l.fn.marks k ⊎ Mem k (take l.p-index l.row));
  long : length l.marks ≡ length l.fn.marks;
}
