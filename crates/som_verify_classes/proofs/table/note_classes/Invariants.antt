use Rattle.som_model.specs.Kernel.{kernel}
use Rattle.som_order.specs.Names.{texts}
use Rattle.som_verify_classes.specs.Modules.{classes_of}
use Rattle.som_verify_classes.proofs.ClassTable.{NamesSoFar}
use Rattle.som_verify_classes.proofs.table.note_classes.Given as goal

abbrev pub invariant-loop-class : goal.invariant-loop-class
invariant-loop-class l = NamesSoFar kernel (classes_of l.classes) l.class-index (texts l.seen.keys)
