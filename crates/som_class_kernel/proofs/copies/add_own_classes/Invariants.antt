use Rattle.std.proofs.Common.{◌≡◌, ◌++◌, map}
use Rattle.som_model.specs.Class.{class_in}
use Rattle.som_class_ids.specs.Classes.{classes_of}
use Rattle.som_class_kernel.proofs.copies.add_own_classes.Given as goal

abbrev pub invariant-loop-decl : goal.invariant-loop-decl
invariant-loop-decl l = classes_of l.all ≡ classes_of l.fn.all ++ map (class_in l.origin) (l.yielded)
