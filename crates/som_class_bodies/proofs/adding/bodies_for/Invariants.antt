use Rattle.std.proofs.Common.{◌≡◌, take}
use Rattle.som_class_bodies.specs.Adding.{bodies_from}
use Rattle.som_class_bodies.proofs.adding.bodies_for.Given as goal

abbrev pub invariant-loop-place : goal.invariant-loop-place
invariant-loop-place l = l.bodies ≡ bodies_from l.class l.way 0 (take l.place l.methods)
