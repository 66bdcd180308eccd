use Rattle.std.proofs.Common.{◌≡◌, length}
use Rattle.som_compat.proofs.names.sort_by_name.Given as goal

abbrev pub invariant-loop-place : goal.invariant-loop-place
invariant-loop-place l = length l.order ≡ length l.fn.order
