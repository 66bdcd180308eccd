use Rattle.std.proofs.Common.{◌∙◌, sym, ap, slice_index_or}
use Rattle.std.specs.Str.{bytes_eq}
use Rattle.som_compat.proofs.Placed.{not_here}
use Rattle.som_compat.proofs.names.find_among.Goals as goal

pub loop-place-preserved : goal.loop-place-preserved
loop-place-preserved c = λ k lt e. not_here c.args.faces.now c.args.name.now c.loop-place.place k c.index-faces-place.result c.loop-place-test.true
    (ap (λ z. bytes_eq (slice_index_or c.args.faces.now c.loop-place.place c.index-faces-place.result).name z) (sym c.as_slice.ensures) ∙ (sym c.is.ensures ∙ c.if-is.false)) c.loop-place.invariant lt e
