use Rattle.std.proofs.Common.{◌≡◌, length, take}
use Rattle.som_model_laws.specs.Rows.{AreMarks}
use Rattle.som_verify_parents.proofs.ancestry.mark_all.Given as goal

abbrev pub invariant-loop-class : goal.invariant-loop-class
invariant-loop-class l = record {
  marks : AreMarks l.marks (take l.class-index l.list);
  long : length l.marks ≡ length l.fn.marks;
}
