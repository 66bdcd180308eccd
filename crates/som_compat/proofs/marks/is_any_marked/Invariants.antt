use Rattle.std.proofs.Common.{◌≡◌, drop}
use Rattle.som_compat.specs.Marks.{some_marked}
use Rattle.som_compat.proofs.marks.is_any_marked.Given as goal

abbrev pub invariant-loop-p : goal.invariant-loop-p
invariant-loop-p l = some_marked (drop l.p-index l.row) l.marks ≡ some_marked l.row l.marks
