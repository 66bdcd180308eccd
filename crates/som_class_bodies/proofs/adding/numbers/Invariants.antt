use Rattle.std.proofs.Common.{◌≡◌, ◌-◌}
use Rattle.som_class_bodies.specs.Adding.{numbers_from}
use Rattle.som_class_bodies.proofs.adding.numbers.Given as goal

abbrev pub invariant-loop-place : goal.invariant-loop-place
invariant-loop-place l = l.numbers ≡ numbers_from l.from (l.place - l.from)
