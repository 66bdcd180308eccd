use Rattle.std.proofs.Common.{◌≡◌, drop, max}
use Rattle.som_class_ids.specs.Classes.{classes_of}
use Rattle.som_class_ids.specs.Levels.{highest_of}
use Rattle.som_class_ids.proofs.named.highest_level.Given as goal

abbrev pub invariant-loop-class : goal.invariant-loop-class
invariant-loop-class l = max l.highest (highest_of (classes_of (drop l.class-index l.classes))) ≡ highest_of (classes_of l.classes)
