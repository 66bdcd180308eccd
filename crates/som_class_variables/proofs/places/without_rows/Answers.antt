use Rattle.std.proofs.Common.{◌∙◌, ◌∷◌, [], None, arith, length-append}
use Rattle.som_tables.proofs.LateRows.{row_at-declare}
use Rattle.som_class_variables.proofs.places.without_rows.Goals as goal

pub declare-requires : goal.declare-requires
declare-requires c = omega (arith, c.loop-number.invariant.each, c.loop-number-test.true, c.ranges.count.fits)

pub loop-number-preserved : goal.loop-number-preserved
loop-number-preserved c =
    rw c.in_ok-declare.ensures.declared (record {
      each = omega (arith, length-append c.loop-number.table (None ∷ []), c.loop-number.invariant.each);
      none = λ n. row_at-declare c.loop-number.table n ∙ c.loop-number.invariant.none n;
    })
