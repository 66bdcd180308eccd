use Rattle.std.proofs.Common.{◌≡◌, take}
use Rattle.som_witness.specs.Program.{zero_values_with}
use Rattle.som_witness_programs.proofs.expressions.zero_values_with.Given as goal

abbrev pub invariant-loop-at : goal.invariant-loop-at
invariant-loop-at l = l.values ≡ take l.at (zero_values_with l.place l.params)
