use Rattle.std.proofs.Common.{◌≡◌, ◌<◌, ℕ, length, map, take}
use Rattle.som_model.specs.Lists.{Mem}
use Rattle.som_verify_classes.specs.Places.{key_at}
use Rattle.som_compat_levels.specs.Standing.{classes_of}
use Rattle.som_compat_levels.proofs.rows.row_of.Given as goal

abbrev pub invariant-loop-parent : goal.invariant-loop-parent
invariant-loop-parent l = record {
  keys : map (key_at (classes_of l.classes)) l.row ≡ take l.parent-index l.parents;
  within : (p : ℕ) → Mem p l.row → p < length (classes_of l.classes);
}
