use Rattle.std.proofs.Common.{◌≡◌, drop, take, []}
use Rattle.som_model.specs.Keys.{same_key}
use Rattle.som_model.specs.Lists.{first, doubles}
use Rattle.som_verify_parents.proofs.double.has_double.Given as goal

abbrev pub invariant-loop-place : goal.invariant-loop-place
invariant-loop-place l = first (doubles same_key (take l.place l.keys) (drop l.place l.keys)) ≡ first (doubles same_key [] l.keys)
