use Rattle.std.proofs.Common.{◌≡◌, drop}
use Rattle.som_cmd_tower_make.specs.TowerMakeAnswer.{has_main}
use Rattle.som_cmd_tower_make.proofs.making.has_main.Given as goal

abbrev pub invariant-loop-name : goal.invariant-loop-name
invariant-loop-name l = has_main (drop l.name-index l.names) ≡ has_main l.names
