use Rattle.std.proofs.Common.{length}
use Rattle.som_test_format.proofs.single.single_bytes.Given as goal

abbrev pub decreases-loop-place : goal.decreases-loop-place
decreases-loop-place l = length l.rest
