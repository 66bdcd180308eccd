use Rattle.std.proofs.Common.{◌≡◌, ◌+◌, ◌<◌, ℕ, drop, flat_map, length, slice_index_or}
use Rattle.som_model.specs.Lists.{first}
use Rattle.som_compat_levels.specs.Pairs.{AreBegun, ArePaired}
use Rattle.som_compat_levels.specs.Tables.{classes_in}
use Rattle.som_compat_levels.specs.Told.{first_leveled, leveled_breaks}
use Rattle.som_compat_levels.proofs.levels.all_keep.Given as goal

abbrev pub invariant-loop-place : goal.invariant-loop-place
invariant-loop-place l = record {
  same : first (flat_map (leveled_breaks (classes_in l.old) (classes_in l.new)) (drop l.place (classes_in l.old))) ≡ first_leveled (classes_in l.old) (classes_in l.new);
  paired : ArePaired (classes_in l.old) (classes_in l.new) l.place l.pairs;
  begun : AreBegun (classes_in l.old) (classes_in l.new) l.place l.pairs;
  marks : length l.marks ≡ length (classes_in l.new);
  fresh : (k : ℕ) → slice_index_or l.marks k 0 < l.place + 1;
  below : length l.below ≡ length (classes_in l.new);
}
