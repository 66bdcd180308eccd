use Rattle.std.proofs.Common.{List, ◌++◌, take}
use Rattle.som_model.specs.declared.key.ValueType.{ValueType}
use Rattle.som_values.specs.Zeros.{AreZeros, kinds_of}
use Rattle.som_values.proofs.copy.add_zeros.Given as goal

-- the cells so far are those of the variables so far
abbrev pub invariant-loop-variable : goal.invariant-loop-variable
invariant-loop-variable l = (types : List ValueType) → AreZeros types l.fn.cells → AreZeros (types ++ kinds_of (take l.variable-index l.variables)) l.cells
