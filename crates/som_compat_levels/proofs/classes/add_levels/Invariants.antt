use Rattle.std.proofs.Common.{◌≡◌, ◌++◌, drop}
use Rattle.som_compat_levels.specs.Standing.{classes_of}
use Rattle.som_level_laws.specs.Levels.{level_classes, levels_from}
use Rattle.som_compat_levels.proofs.classes.add_levels.Given as goal

abbrev pub invariant-loop-level : goal.invariant-loop-level
invariant-loop-level l = classes_of l.all.items ++ levels_from l.level (drop l.level l.levels) ≡ classes_of l.fn.all.items ++ level_classes l.levels
