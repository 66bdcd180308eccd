use Rattle.std.proofs.Common.{◌≡◌, drop}
use Rattle.som_io.specs.Leaves.{left_after, left_by}
use Rattle.som_io.proofs.leaves.left_by.Given as goal

abbrev pub invariant-loop-put : goal.invariant-loop-put
invariant-loop-put l = left_after l.leaves (drop l.put-index l.puts) l.call ≡ left_by l.puts l.call
