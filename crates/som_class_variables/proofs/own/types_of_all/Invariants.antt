use Rattle.std.proofs.Common.{◌≡◌, flat_map, map, take}
use Rattle.som_meta.specs.Numbering.{key_at}
use Rattle.som_class_variables.specs.Variables.{own_variables}
use Rattle.som_class_variables.proofs.own.types_of_all.Given as goal

abbrev pub invariant-loop-class : goal.invariant-loop-class
invariant-loop-class l = l.types ≡ flat_map (own_variables l.classes.classes) (map (key_at l.classes) (take l.class-index l.all))
