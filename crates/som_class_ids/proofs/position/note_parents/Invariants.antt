use Rattle.std.proofs.Common.{◌≡◌, ◌==◌, [], drop, length, map, slice_index_or}
use Rattle.som_model.specs.Lists.{joined}
use Rattle.som_model_laws.specs.Once.{adds}
use Rattle.som_model_laws.specs.Rows.{AreMarks}
use Rattle.som_class_ids.specs.Positions.{lists}
use Rattle.som_class_ids.proofs.position.note_parents.Given as goal

abbrev pub invariant-loop-parent : goal.invariant-loop-parent
invariant-loop-parent l = record {
  list : adds ◌==◌ l.list (joined (map (λ p. slice_index_or (lists l.known) p []) (drop l.parent-index l.parents)))
      ≡ adds ◌==◌ l.fn.list (joined (map (λ p. slice_index_or (lists l.known) p []) l.parents));
  marks : AreMarks l.marks l.list;
  long : length l.marks ≡ length l.fn.marks;
}
