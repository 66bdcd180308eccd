use Rattle.std.proofs.Common.{◌≡◌, drop}
use Rattle.som_model.specs.Keys.{same_key}
use Rattle.som_model.specs.Lists.{some}
use Rattle.som_verify_parents.proofs.double.stands_in.Given as goal

abbrev pub invariant-loop-other : goal.invariant-loop-other
invariant-loop-other l = some (same_key l.key) (drop l.other-index l.keys) ≡ some (same_key l.key) l.keys
