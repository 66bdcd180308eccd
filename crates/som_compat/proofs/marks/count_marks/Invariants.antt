use Rattle.std.proofs.Common.{◌≡◌, ◌≤◌, ◌+◌, length}
use Rattle.som_compat.specs.Marks.{count}
use Rattle.som_compat.proofs.marks.count_marks.Given as goal

abbrev pub invariant-loop-rest : goal.invariant-loop-rest
invariant-loop-rest l = record {
  same : l.number + count l.rest ≡ count l.marks;
  few : l.number + length l.rest ≤ length l.marks;
}

abbrev pub decreases-loop-rest : goal.decreases-loop-rest
decreases-loop-rest l = length l.rest
