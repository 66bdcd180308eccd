use Rattle.std.proofs.Common.{length}
use Rattle.som_test_format.proofs.fields.Fields.bytes.Given as goal

abbrev pub decreases-loop-rest : goal.decreases-loop-rest
decreases-loop-rest l = length l.rest
