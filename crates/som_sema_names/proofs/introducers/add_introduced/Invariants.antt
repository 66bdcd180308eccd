use Rattle.std.proofs.Common.{◌≡◌, ◌++◌, List, length, take}
use Rattle.som_model.specs.Class.{introduced}
use Rattle.som_order.specs.Names.{texts}
use Rattle.som_sema_names.specs.Introducers.{AreSeen, At, at_one}
use Rattle.som_sema_names.proofs.introducers.add_introduced.Given as goal

abbrev pub invariant-loop-entry : goal.invariant-loop-entry
invariant-loop-entry l = record {
  long : length l.places.items ≡ length (texts l.names.keys);
  seen : (seen : List At) → AreSeen seen (texts l.fn.names.keys) l.fn.places.items
      → AreSeen (seen ++ at_one l.place (introduced (take l.entry-index l.entries))) (texts l.names.keys) l.places.items;
}
