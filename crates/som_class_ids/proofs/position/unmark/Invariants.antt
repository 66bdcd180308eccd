use Rattle.std.proofs.Common.{drop}
use Rattle.som_class_ids.proofs.Unmarking.{AreOnly}
use Rattle.som_class_ids.proofs.position.unmark.Given as goal

abbrev pub invariant-loop-class : goal.invariant-loop-class
invariant-loop-class l = AreOnly l.marks (drop l.class-index l.classes)
