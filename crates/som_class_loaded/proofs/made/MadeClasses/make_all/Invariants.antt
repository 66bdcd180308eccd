use Rattle.std.proofs.Common.{take}
use Rattle.som_class_loaded.specs.Made.{AreMarked, AreParts, KeepsMade}
use Rattle.som_class_loaded.specs.Making.{parts_of}
use Rattle.som_class_loaded.proofs.made.MadeClasses.make_all.Given as goal

abbrev pub invariant-loop-class : goal.invariant-loop-class
invariant-loop-class l = record {
  parts : AreParts l.classes (parts_of l.self);
  keeps : KeepsMade (parts_of l.fn.self) (parts_of l.self);
  made : AreMarked (parts_of l.fn.self).made (parts_of l.self).made (take l.class-index l.order);
}
