use Rattle.std.proofs.Common.{◌≡◌, ◌↔◌, ◌⊎◌, ◌<◌, ◌≤◌, ℕ, take, length}
use Rattle.som_model.specs.Lists.{Mem}
use Rattle.som_verify_classes.specs.Places.{key_at}
use Rattle.som_compat.specs.Marks.{Marked}
use Rattle.som_compat.specs.Views.{classes_of}
use Rattle.som_compat.proofs.ancestors.mark_keys.Given as goal

abbrev pub invariant-loop-key : goal.invariant-loop-key
invariant-loop-key l = record {
  within : (q : ℕ) → q < length (classes_of l.lookup.faces.now) → Marked l.marks q ↔ (Marked l.fn.marks q ⊎ Mem (key_at (classes_of l.lookup.faces.now) q) (take l.key-index l.keys));
  past : (q : ℕ) → length (classes_of l.lookup.faces.now) ≤ q → Marked l.marks q → Marked l.fn.marks q;
  long : length l.marks ≡ length l.fn.marks;
}
