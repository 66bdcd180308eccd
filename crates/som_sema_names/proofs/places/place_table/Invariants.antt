use Rattle.std.proofs.Common.{take}
use Rattle.som_order.specs.Names.{texts}
use Rattle.som_sema_names.specs.Noted.{Know, all_at}
use Rattle.som_sema_names.proofs.places.place_table.Given as goal

abbrev pub invariant-loop-noted : goal.invariant-loop-noted
invariant-loop-noted l = Know (all_at (take l.noted-index l.all)) (texts l.names.keys) l.places.items
