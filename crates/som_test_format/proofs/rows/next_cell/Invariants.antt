use Rattle.std.proofs.Common.{length, ◌≤◌}
use Rattle.som_test_format.proofs.rows.next_cell.Given as goal

abbrev pub invariant-loop-rest : goal.invariant-loop-rest
invariant-loop-rest l = length l.rest ≤ length l.row

abbrev pub decreases-loop-rest : goal.decreases-loop-rest
decreases-loop-rest l = length l.rest
