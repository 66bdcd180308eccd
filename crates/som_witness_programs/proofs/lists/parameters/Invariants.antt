use Rattle.std.proofs.Common.{◌≡◌, take}
use Rattle.som_witness.specs.Wording.{parameters}
use Rattle.som_witness_programs.proofs.lists.parameters.Given as goal

abbrev pub invariant-loop-number : goal.invariant-loop-number
invariant-loop-number l = l.names ≡ parameters 0 (take l.number l.params)
