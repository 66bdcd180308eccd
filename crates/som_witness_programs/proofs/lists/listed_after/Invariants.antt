use Rattle.std.proofs.Common.{◌≡◌, ◌++◌, take, flat_map, codes}
use Rattle.som_witness_programs.proofs.lists.listed_after.Given as goal

abbrev pub invariant-loop-word : goal.invariant-loop-word
invariant-loop-word l = l.text.items ≡ l.first ++ flat_map (λ w. codes ", " ++ w) (take l.word-index l.others)
