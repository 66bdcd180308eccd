use Rattle.std.proofs.Common.{◌≡◌, drop}
use Rattle.som_model.specs.Keys.{same_key}
use Rattle.som_model.specs.Lists.{some}
use Rattle.som_class_ids.specs.declared.keyed.Keyed.{Keyed}
use Rattle.som_test_kernel.proofs.levels.is_there.Given as goal

abbrev pub invariant-loop-class : goal.invariant-loop-class
invariant-loop-class l = some (λ (c : Keyed). same_key l.key c.key) (drop l.class-index l.classes) ≡ some (λ (c : Keyed). same_key l.key c.key) l.classes
