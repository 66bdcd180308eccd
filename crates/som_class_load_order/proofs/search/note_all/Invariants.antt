use Rattle.std.proofs.Common.{take}
use Rattle.som_model.specs.Lists.{Mem}
use Rattle.som_class_load_order.specs.Searching.{AreNoted, AreSame}
use Rattle.som_class_load_order.proofs.search.note_all.Given as goal

abbrev pub invariant-loop-class : goal.invariant-loop-class
invariant-loop-class l = record {
  same : AreSame l.closure l.found.classes l.found.ranked.keys;
  noted : AreNoted l.made (λ n. Mem n (take l.class-index l.classes)) l.fn.found.classes l.found.classes;
}
