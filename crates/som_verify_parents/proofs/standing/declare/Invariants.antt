use Rattle.std.proofs.Common.{◌≡◌, ◌++◌, drop, map}
use Rattle.som_model.specs.Class.{class_in}
use Rattle.som_verify_classes.specs.Modules.{classes_of}
use Rattle.som_verify_parents.proofs.standing.declare.Given as goal

abbrev pub invariant-loop-decl : goal.invariant-loop-decl
invariant-loop-decl l = classes_of l.all.items ++ map (class_in l.home) (drop l.decl-index l.classes) ≡ classes_of l.fn.declared.items ++ map (class_in l.home) l.classes
