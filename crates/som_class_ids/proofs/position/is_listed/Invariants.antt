use Rattle.std.proofs.Common.{◌≡◌, ◌==◌, drop}
use Rattle.som_model.specs.Lists.{some}
use Rattle.som_class_ids.proofs.position.is_listed.Given as goal

abbrev pub invariant-loop-other : goal.invariant-loop-other
invariant-loop-other l = some (λ x. l.class == x) (drop l.other-index l.list) ≡ some (λ x. l.class == x) l.list
