use Rattle.std.proofs.Common.{◌≡◌, map, take}
use Rattle.som_test_examples.proofs.names.tokens.Given as goal

abbrev pub invariant-loop-place : goal.invariant-loop-place
invariant-loop-place l = l.tokens ≡ map (λ place. (l.class, place)) (take l.place-index l.places)
