use Rattle.std.proofs.Common.{sym, ap, ◌∙◌}
use Rattle.std.specs.Str.{bytes_eq}
use Rattle.som_image_encode.proofs.Numbering.{slot_later}
use Rattle.som_image_encode.proofs.lookup.slot_of.Goals as goal

pub loop-slot-preserved : goal.loop-slot-preserved
loop-slot-preserved c = slot_later c.as_slice-names.result.now c.args.name.now c.index-names-slot.result c.loop-slot.slot c.loop-slot-test.true c.index-names-slot.is
    (ap (bytes_eq c.index-names-slot.result) (sym c.as_slice.ensures) ∙ sym c.if-is.ensures) c.loop-slot.invariant
