use Rattle.som_order.specs.Names.{texts}
use Rattle.som_verify_classes.specs.Modules.{classes_of}
use Rattle.som_verify_classes.specs.Places.{with_kernel}
use Rattle.som_sema_names.specs.Introducers.{AreSeen, at_first}
use Rattle.som_sema_names.proofs.introducers.introducers_of.Given as goal

abbrev pub invariant-loop-place : goal.invariant-loop-place
invariant-loop-place l = AreSeen (at_first (with_kernel (classes_of l.classes)) l.place) (texts l.names.keys) l.places.items
