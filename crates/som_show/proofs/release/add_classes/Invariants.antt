use Rattle.std.proofs.Common.{◌≡◌, ◌++◌, take}
use Rattle.som_show.specs.Shown.{class_lines}
use Rattle.som_show.proofs.release.add_classes.Given as goal

abbrev pub invariant-loop-class : goal.invariant-loop-class
invariant-loop-class l = l.lines ≡ l.initial.lines ++ class_lines (take l.class-index l.classes)
