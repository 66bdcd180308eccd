use Rattle.std.proofs.Common.{take}
use Rattle.som_class_variables.specs.Variables.{variables_over}
use Rattle.som_values.specs.Zeros.{AreZeros}
use Rattle.som_classmgr.proofs.zeros.zeros_over.Given as goal

abbrev pub invariant-loop-class : goal.invariant-loop-class
invariant-loop-class l = AreZeros (variables_over l.classes (take l.class-index l.all)) l.cells
