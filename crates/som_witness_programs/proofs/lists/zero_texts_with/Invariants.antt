use Rattle.std.proofs.Common.{◌≡◌, take}
use Rattle.som_witness.specs.Wording.{zero_texts_with}
use Rattle.som_witness_programs.proofs.lists.zero_texts_with.Given as goal

abbrev pub invariant-loop-at : goal.invariant-loop-at
invariant-loop-at l = l.values ≡ take l.at (zero_texts_with l.place l.params)
