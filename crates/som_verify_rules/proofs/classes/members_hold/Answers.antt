use Rattle.std.proofs.Common.{Err}
use Rattle.std.proofs.lemmas.Result.{err_from_is_err_and}
use Rattle.som_verify_classes.proofs.Conformity.{tells_here, tells_later}
use Rattle.som_verify_rules.proofs.classes.members_hold.Goals as goal

pub returns-in_err-entries_differ : goal.returns-in_err-entries_differ
returns-in_err-entries_differ c =
    let p = err_from_is_err_and c.from_residual.result c.from_residual.ensures.1 in
    rw (p.1, p.2) (tells_here _ _ c.in_err-entries_differ.field-0.0 c.in_err-entries_differ.ensures)

pub returns-in_err-variables_differ : goal.returns-in_err-variables_differ
returns-in_err-variables_differ c =
    let p = err_from_is_err_and c.from_residual-in_err-variables_differ.result c.from_residual-in_err-variables_differ.ensures.1 in
    rw (p.1, p.2) (tells_later _ _ (Err c.in_err-variables_differ.field-0.0) c.in_ok-entries_differ.ensures (tells_here _ _ c.in_err-variables_differ.field-0.0 c.in_err-variables_differ.ensures))

pub returns : goal.returns
returns c = tells_later _ _ c.methods_hold.result c.in_ok-entries_differ.ensures (tells_later _ _ c.methods_hold.result c.in_ok-variables_differ.ensures c.methods_hold.ensures)
