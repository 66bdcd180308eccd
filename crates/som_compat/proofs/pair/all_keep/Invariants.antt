use Rattle.std.proofs.Common.{◌≡◌, ◌<◌, ℕ, None, drop, map, flat_map, slice_index_or}
use Rattle.som_model.specs.declared.class.ClassFace.{ClassFace}
use Rattle.som_model.specs.Lists.{first}
use Rattle.som_model.specs.Compatible.{class_breaks}
use Rattle.som_compat.specs.Views.{classes_of, shown}
use Rattle.som_compat.proofs.pair.all_keep.Given as goal

abbrev pub invariant-loop-place : goal.invariant-loop-place
invariant-loop-place l = record {
  same : first (flat_map (class_breaks (classes_of l.old.lookup.faces.now) (classes_of l.new.lookup.faces.now)) (map shown (drop l.place l.classes)))
      ≡ first (flat_map (class_breaks (classes_of l.old.lookup.faces.now) (classes_of l.new.lookup.faces.now)) (map shown l.classes));
  before : (i : ℕ) (d : ClassFace) → i < l.place → first (class_breaks (classes_of l.old.lookup.faces.now) (classes_of l.new.lookup.faces.now) (shown (slice_index_or l.classes i d))) ≡ None;
}
