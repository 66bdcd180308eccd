use Rattle.std.proofs.Common.{take}
use Rattle.som_class_bodies.specs.Adding.{AreChosen}
use Rattle.som_class_bodies.proofs.replaced.declared_cells.Given as goal

abbrev pub invariant-loop-method : goal.invariant-loop-method
invariant-loop-method l = AreChosen l.classes l.table l.class (take l.method-index l.methods) l.cells
