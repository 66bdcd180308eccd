use Rattle.std.proofs.Common.{◌≡◌, ◌++◌, ◌-◌, drop, take}
use Rattle.som_class_bodies.specs.Adding.{cells_from}
use Rattle.som_class_bodies.proofs.adding.add_cells.Given as goal

abbrev pub invariant-loop-place : goal.invariant-loop-place
invariant-loop-place l = l.cells ≡ l.initial.cells ++ cells_from l.from (take (l.place - l.from) (drop l.from l.all))
