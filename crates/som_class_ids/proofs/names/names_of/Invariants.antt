use Rattle.std.proofs.Common.{take}
use Rattle.som_class_ids.specs.Names.{AreNoted, face_names}
use Rattle.som_class_ids.proofs.names.names_of.Given as goal

abbrev pub invariant-loop-class : goal.invariant-loop-class
invariant-loop-class l = AreNoted (take l.class-index (face_names l.classes)) l.names
