use Rattle.std.proofs.Common.{◌≡◌, ◌≤◌, ◌+◌, length}
use Rattle.som_compat.specs.Told.{some_declares}
use Rattle.som_compat.proofs.metaclasses.some_class_declares.Given as goal

abbrev pub invariant-loop-rest : goal.invariant-loop-rest
invariant-loop-rest l = record {
  same : some_declares l.place l.rest l.marks l.below ≡ some_declares 0 l.rows l.marks l.below;
  few : l.place + length l.rest ≤ 4100;
}

abbrev pub decreases-loop-rest : goal.decreases-loop-rest
decreases-loop-rest l = length l.rest
