use Rattle.std.proofs.Common.{drop, map}
use Rattle.som_model.specs.Lists.{Mem}
use Rattle.som_model.specs.Rules.{name_of}
use Rattle.som_compat_levels.specs.Standing.{classes_of}
use Rattle.som_flat.proofs.names.level_named.Given as goal

abbrev pub invariant-loop-class : goal.invariant-loop-class
invariant-loop-class l = Mem l.name (map name_of (classes_of l.classes)) → Mem l.name (map name_of (drop l.class-index (classes_of l.classes)))
