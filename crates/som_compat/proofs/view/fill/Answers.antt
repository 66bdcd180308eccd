use Rattle.std.proofs.Common.{arith}
use Rattle.std.proofs.lemmas.List.{length-set}
use Rattle.som_compat.specs.Views.{classes_of}
use Rattle.som_compat.proofs.Viewing.{filled_more, filled_rows}
use Rattle.som_compat.proofs.view.fill.Goals as goal

pub loop-place-preserved : goal.loop-place-preserved
loop-place-preserved c =
    let h = length-set c.loop-place.rows c.loop-place.place c.row_at.result in
    record {
      filled = filled_more (classes_of c.args.lookup.now.faces.now) c.loop-place.rows c.loop-place.place c.row_at.result (omega (arith, c.loop-place.invariant.long)) c.row_at.ensures c.loop-place.invariant.filled;
      long = omega (arith, h, c.loop-place.invariant.long);
    }

pub returns : goal.returns
returns c = filled_rows c.args.lookup.now.faces.now c.loop-place.rows (omega (arith, c.loop-place.invariant.long)) (λ p d lt. c.loop-place.invariant.filled p d (omega (arith, lt)))
