use Rattle.som_verify_classes.specs.Places.{IsRows}
use Rattle.som_compat_levels.specs.Standing.{classes_of}
use Rattle.som_compat_levels.proofs.rows.parent_rows.Given as goal

abbrev pub invariant-loop-class : goal.invariant-loop-class
invariant-loop-class l = IsRows (classes_of l.classes) l.class-index l.rows.items
