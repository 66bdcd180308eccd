use Rattle.std.proofs.Common.{◌≡◌, ◌==◌, [], drop, length, map, slice_index_or}
use Rattle.som_model.specs.Lists.{joined}
use Rattle.som_model_laws.specs.Once.{adds}
use Rattle.som_model_laws.specs.Rows.{AreMarks}
use Rattle.som_verify_parents.proofs.ancestry.note_parents.Given as goal

abbrev pub invariant-loop-parent : goal.invariant-loop-parent
invariant-loop-parent l = record {
  list : adds ◌==◌ l.list (joined (map (λ p. slice_index_or l.known p []) (drop l.parent-index l.row)))
      ≡ adds ◌==◌ l.fn.list (joined (map (λ p. slice_index_or l.known p []) l.row));
  marks : AreMarks l.marks l.list;
  long : length l.marks ≡ length l.fn.marks;
}
