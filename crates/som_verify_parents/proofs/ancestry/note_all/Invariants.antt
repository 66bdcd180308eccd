use Rattle.std.proofs.Common.{◌≡◌, ◌==◌, drop, length}
use Rattle.som_model_laws.specs.Once.{adds}
use Rattle.som_model_laws.specs.Rows.{AreMarks}
use Rattle.som_verify_parents.proofs.ancestry.note_all.Given as goal

abbrev pub invariant-loop-other : goal.invariant-loop-other
invariant-loop-other l = record {
  list : adds ◌==◌ l.list (drop l.other-index l.others) ≡ adds ◌==◌ l.fn.list l.others;
  marks : AreMarks l.marks l.list;
  long : length l.marks ≡ length l.fn.marks;
}
