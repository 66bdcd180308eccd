use Rattle.std.proofs.Common.{◌≡◌, map, take}
use Rattle.som_image_encode.specs.NumberedClasses.{variable_numbered}
use Rattle.som_image_encode.proofs.numbered_part.number_variables.Given as goal

abbrev pub invariant-loop-variable : goal.invariant-loop-variable
invariant-loop-variable l = l.numbered ≡ map (variable_numbered l.directory.keys) (take l.variable-index l.variables)
