use Rattle.som_verify_classes.specs.Modules.{classes_of}
use Rattle.som_verify_classes.proofs.Rows.{RowsSoFar}
use Rattle.som_verify_parents.proofs.parents.add_parents.Given as goal

abbrev pub invariant-loop-class : goal.invariant-loop-class
invariant-loop-class l = RowsSoFar (classes_of l.classes) l.class-index l.rows.items
