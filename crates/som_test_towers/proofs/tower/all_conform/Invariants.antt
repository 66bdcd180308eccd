use Rattle.std.proofs.Common.{take}
use Rattle.som_test_towers.specs.Reading.{AllConform}
use Rattle.som_test_towers.proofs.tower.all_conform.Given as goal

abbrev pub invariant-loop-place : goal.invariant-loop-place
invariant-loop-place l = AllConform (take l.place l.levels)
