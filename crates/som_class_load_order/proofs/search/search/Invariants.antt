use Rattle.std.proofs.Common.{◌-◌}
use Rattle.som_class_load_order.specs.Searching.{AreSame, AreSearched}
use Rattle.som_class_load_order.proofs.search.search.Given as goal

abbrev pub invariant-loop-done : goal.invariant-loop-done
invariant-loop-done l = record {
  same : AreSame l.closure l.found.classes l.found.ranked.keys;
  searched : AreSearched l.closure l.made l.fn.class l.found.classes l.done;
}

abbrev pub decreases-loop-done : goal.decreases-loop-done
decreases-loop-done l = 18446744073709551616 - l.done
