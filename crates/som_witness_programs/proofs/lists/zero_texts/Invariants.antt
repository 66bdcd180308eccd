use Rattle.std.proofs.Common.{◌≡◌, take}
use Rattle.som_witness.specs.Wording.{zero_texts}
use Rattle.som_witness_programs.proofs.lists.zero_texts.Given as goal

abbrev pub invariant-loop-kind : goal.invariant-loop-kind
invariant-loop-kind l = l.values ≡ zero_texts (take l.kind-index l.params)
