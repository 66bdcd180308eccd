use Rattle.std.proofs.Common.{◌≡◌, ◌*◌, ◌≤◌, take}
use Rattle.std.specs.Prelude.{sum}
use Rattle.som_towerimage.proofs.head.classes_of.Given as goal

-- the sum of those so far, each of which has two bytes
abbrev pub invariant-loop-size : goal.invariant-loop-size
invariant-loop-size l = (l.classes ≡ sum (take l.size-index l.sizes)) × (l.classes ≤ 65535 * l.size-index)
