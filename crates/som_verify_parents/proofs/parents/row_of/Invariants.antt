use Rattle.som_verify_classes.specs.Modules.{classes_of}
use Rattle.som_verify_classes.specs.Places.{with_kernel}
use Rattle.som_verify_classes.proofs.Rows.{RowSoFar}
use Rattle.som_verify_parents.proofs.parents.row_of.Given as goal

abbrev pub invariant-loop-parent : goal.invariant-loop-parent
invariant-loop-parent l = RowSoFar (with_kernel (classes_of l.classes)) l.place l.parents l.parent-index l.row
