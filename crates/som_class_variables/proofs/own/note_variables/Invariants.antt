use Rattle.std.proofs.Common.{◌≡◌, ◌++◌, take}
use Rattle.som_class_variables.specs.Variables.{types_of}
use Rattle.som_class_variables.proofs.own.note_variables.Given as goal

abbrev pub invariant-loop-variable : goal.invariant-loop-variable
invariant-loop-variable l = l.types ≡ l.fn.types ++ types_of (take l.variable-index l.variables)
