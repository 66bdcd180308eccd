use Rattle.std.proofs.Common.{◌-◌, length}
use Rattle.som_class_load_order.specs.Metas.{IsClosing}
use Rattle.som_class_load_order.proofs.pass.number_metaclasses.Given as goal

abbrev pub invariant-loop-alloc : goal.invariant-loop-alloc
invariant-loop-alloc l = IsClosing l.fn.classes l.classes l.metas

abbrev pub decreases-loop-alloc : goal.decreases-loop-alloc
decreases-loop-alloc l = 4294967296 - length l.metas
