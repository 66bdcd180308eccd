use Rattle.som_image_encode.proofs.Numbering.{FurtherOn}
use Rattle.som_image_encode.proofs.lookup.slot_of.Given as goal

abbrev pub invariant-loop-slot : goal.invariant-loop-slot
invariant-loop-slot l = FurtherOn l.names l.name l.slot
