use Rattle.std.proofs.Common.{◌≡◌, nat_eq, drop}
use Rattle.som_model.specs.Lists.{some}
use Rattle.som_test_examples.proofs.sample.is_among.Given as goal

abbrev pub invariant-loop-other : goal.invariant-loop-other
invariant-loop-other l = some (nat_eq l.class) (drop l.other-index l.classes) ≡ some (nat_eq l.class) l.classes
