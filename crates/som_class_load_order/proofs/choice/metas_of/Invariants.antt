use Rattle.std.proofs.Common.{◌≡◌, map, take}
use Rattle.som_class_load_order.specs.Metas.{meta_at}
use Rattle.som_class_load_order.proofs.choice.metas_of.Given as goal

abbrev pub invariant-loop-class : goal.invariant-loop-class
invariant-loop-class l = l.list ≡ map (meta_at l.metas) (take l.class-index l.classes)
