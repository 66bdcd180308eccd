use Rattle.std.proofs.Common.{◌≡◌, nat_eq, take}
use Rattle.som_model.specs.Lists.{firsts}
use Rattle.som_meta.proofs.constraints.each_once.Given as goal

abbrev pub invariant-loop-place : goal.invariant-loop-place
invariant-loop-place l = l.once ≡ firsts nat_eq (take l.place l.classes)
