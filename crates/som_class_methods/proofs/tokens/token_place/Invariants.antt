use Rattle.som_class_methods.specs.Members.{IsNotBefore}
use Rattle.som_class_methods.proofs.tokens.token_place.Given as goal

abbrev pub invariant-loop-place : goal.invariant-loop-place
invariant-loop-place l = IsNotBefore l.tokens l.token l.place
