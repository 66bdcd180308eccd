use Rattle.std.proofs.Common.{◌≡◌, ◌<◌, ℕ, length, take, map}
use Rattle.som_model.specs.Lists.{Mem}
use Rattle.som_verify_classes.specs.Places.{key_at}
use Rattle.som_compat.specs.Views.{classes_of}
use Rattle.som_compat.proofs.rows.row_of.Given as goal

abbrev pub invariant-loop-parent : goal.invariant-loop-parent
invariant-loop-parent l = record {
  keys : map (key_at (classes_of l.lookup.faces.now)) (take l.count l.numbers) ≡ take l.parent-index l.face.parents;
  low : (q : ℕ) → Mem q (take l.count l.numbers) → q < length (classes_of l.lookup.faces.now);
  at : l.count ≡ l.parent-index;
  long : length l.numbers ≡ 16;
}
