use Rattle.std.proofs.Common.{length, ◌+◌, ◌*◌, ◌≤◌}
use Rattle.som_test_driver.proofs.runner.Runner.+lines.Given as goal

abbrev pub decreases-run : goal.decreases-run
decreases-run g l = 2 * length l.lines.now

abbrev pub decreases-run_rows : goal.decreases-run_rows
decreases-run_rows g l = 2 * length l.after.now + 1

abbrev pub invariant-run-loop-rest : goal.invariant-run-loop-rest
invariant-run-loop-rest g l = length l.rest ≤ length l.lines

abbrev pub decreases-run-loop-rest : goal.decreases-run-loop-rest
decreases-run-loop-rest g l = length l.rest
