use Rattle.som_class_ids.proofs.Noting.{Comes, is_of, steps_left}
use Rattle.som_class_ids.proofs.names.find_named.Given as goal

abbrev pub invariant-loop-next : goal.invariant-loop-next
invariant-loop-next l = Comes l.classes l.name (is_of l.fn.home l.name) l.next

abbrev pub decreases-loop-next : goal.decreases-loop-next
decreases-loop-next l = steps_left l.next
