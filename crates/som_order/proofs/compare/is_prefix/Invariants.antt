use Rattle.std.proofs.Common.{◌≡◌, ◌≤◌, ◌+◌, length, map}
use Rattle.som_model.specs.Class.{entry_name}
use Rattle.som_order.specs.Difference.{first_difference}
use Rattle.som_order.proofs.compare.is_prefix.Given as goal

abbrev pub invariant-loop-olds : goal.invariant-loop-olds
invariant-loop-olds l = record {
  same : first_difference l.place (map entry_name l.olds) (map entry_name l.news) ≡ first_difference 0 (map entry_name l.fn.old) (map entry_name l.fn.new);
  place : l.place + length l.olds ≤ 65535;
}

abbrev pub decreases-loop-olds : goal.decreases-loop-olds
decreases-loop-olds l = length l.olds
