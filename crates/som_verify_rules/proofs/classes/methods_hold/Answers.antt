use Rattle.std.proofs.Common.{Err}
use Rattle.std.proofs.lemmas.Result.{err_from_is_err_and}
use Rattle.som_verify_classes.proofs.Conformity.{tells_here, tells_later}
use Rattle.som_verify_rules.proofs.classes.methods_hold.Goals as goal

pub returns-in_err-names_introduced_once : goal.returns-in_err-names_introduced_once
returns-in_err-names_introduced_once c =
    let p = err_from_is_err_and c.from_residual.result c.from_residual.ensures.1 in
    rw (p.1, p.2) (tells_here _ _ c.in_err-names_introduced_once.field-0.0 c.in_err-names_introduced_once.ensures)

pub returns-in_err-entries_moved_up : goal.returns-in_err-entries_moved_up
returns-in_err-entries_moved_up c =
    let p = err_from_is_err_and c.from_residual-in_err-entries_moved_up.result c.from_residual-in_err-entries_moved_up.ensures.1 in
    rw (p.1, p.2) (tells_later _ _ (Err c.in_err-entries_moved_up.field-0.0) c.in_ok-names_introduced_once.ensures (tells_here _ _ c.in_err-entries_moved_up.field-0.0 c.in_err-entries_moved_up.ensures))

pub returns : goal.returns
returns c = tells_later _ _ c.overrides_inherited.result c.in_ok-names_introduced_once.ensures (tells_later _ _ c.overrides_inherited.result c.in_ok-entries_moved_up.ensures c.overrides_inherited.ensures)
