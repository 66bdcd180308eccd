use Rattle.std.proofs.Common.{length}
use Rattle.som_test_format.proofs.rows.cells_of.Given as goal

abbrev pub decreases-loop-value : goal.decreases-loop-value
decreases-loop-value l = length l.rest
