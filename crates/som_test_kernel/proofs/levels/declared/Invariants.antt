use Rattle.som_class_ids.specs.Classes.{classes_of}
use Rattle.som_test_kernel.specs.Plain.{ArePlain}
use Rattle.som_test_kernel.proofs.levels.declared.Given as goal

-- all that were declared so far have nothing of their own
abbrev pub invariant-loop-row : goal.invariant-loop-row
invariant-loop-row l = ArePlain (classes_of l.classes)
