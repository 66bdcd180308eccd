use Rattle.std.proofs.Common.{◌≡◌, take}
use Rattle.som_witness.specs.Program.{zero_values}
use Rattle.som_witness_programs.proofs.expressions.zero_values.Given as goal

abbrev pub invariant-loop-kind : goal.invariant-loop-kind
invariant-loop-kind l = l.values ≡ zero_values (take l.kind-index l.params)
