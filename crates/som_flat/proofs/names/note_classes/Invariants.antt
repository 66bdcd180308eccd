use Rattle.som_order.specs.Names.{texts}
use Rattle.som_compat_levels.specs.Standing.{classes_of}
use Rattle.som_flat.proofs.Naming.{NamedSoFar}
use Rattle.som_flat.proofs.names.note_classes.Given as goal

abbrev pub invariant-loop-class : goal.invariant-loop-class
invariant-loop-class l = NamedSoFar (classes_of l.classes) l.class-index (texts l.seen.keys)
