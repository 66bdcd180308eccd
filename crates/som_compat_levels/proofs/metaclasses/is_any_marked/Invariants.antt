use Rattle.std.proofs.Common.{◌≡◌, drop}
use Rattle.som_compat.specs.Marks.{some_marked}
use Rattle.som_compat_levels.proofs.metaclasses.is_any_marked.Given as goal

abbrev pub invariant-loop-place : goal.invariant-loop-place
invariant-loop-place l = some_marked (drop l.place-index l.row) l.marks ≡ some_marked l.row l.marks
