use Rattle.std.proofs.Common.{◌≡◌, length}
use Rattle.som_test_towers.specs.Reading.{AreRead}
use Rattle.som_test_towers.proofs.tower.read_uppers.Given as goal

abbrev pub invariant-loop-place : goal.invariant-loop-place
invariant-loop-place l = record { read : AreRead l.levels; many : length l.levels ≡ l.place }
