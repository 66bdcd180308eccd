use Rattle.std.proofs.Common.{◌∙◌, arith}
use Rattle.std.proofs.lemmas.Result.{err_from_is_err_and}
use Rattle.som_verify_classes.specs.Modules.{classes_of}
use Rattle.som_verify_classes.proofs.Rows.{rows_next, rows_start, rows_stop, rows_end, rows_told}
use Rattle.som_verify_parents.proofs.parents.add_parents.Goals as goal

pub returns-in_err-row-clause-tells : goal.returns-in_err-row-clause-tells
returns-in_err-row-clause-tells c =
    let p = err_from_is_err_and c.from_residual.result c.from_residual.ensures.1 in
    rw (p.1, p.2) (rows_stop c.args.classes.now c.loop-class.class-index c.len.result c.loop-class.rows.items c.class-item.result c.in_err-row.field-0.0
    c.loop-class-test.true c.class-item.is (c.len.ensures ∙ c.loop-class.rows.ok.0) c.in_err-row.ensures c.loop-class.invariant)

pub loop-class-preserved : goal.loop-class-preserved
loop-class-preserved c = rw c.in_ok-push.ensures.items
    (rows_next c.args.classes.now c.loop-class.class-index c.len.result c.loop-class.rows.items c.in_ok-row.row c.class-item.result
    c.loop-class-test.true c.class-item.is (c.len.ensures ∙ c.loop-class.rows.ok.0) c.in_ok-row.ensures c.loop-class.invariant)

pub returns-clause-tells : goal.returns-clause-tells
returns-clause-tells c = rows_told c.args.classes.now c.loop-class.class-index c.loop-class.rows.items c.loop-class-test.false c.loop-class.invariant

pub returns-clause-rows : goal.returns-clause-rows
returns-clause-rows c = rows_end c.args.classes.now c.loop-class.class-index c.loop-class.rows.items (omega (arith, c.loop-class-test.false, c.loop-class.auto.class-index-end)) c.loop-class.invariant

pub loop-class-init : goal.loop-class-init
loop-class-init c = rw c.requires.rows (rows_start (classes_of c.args.classes.now))
