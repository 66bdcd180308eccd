use Rattle.std.proofs.Common.{Err}
use Rattle.std.proofs.lemmas.Result.{err_from_is_err_and}
use Rattle.som_verify_classes.proofs.Conformity.{tells_here, tells_later}
use Rattle.som_verify_rules.proofs.classes.placed_hold.Goals as goal

pub returns-in_err-metaclasses_descend : goal.returns-in_err-metaclasses_descend
returns-in_err-metaclasses_descend c =
    let p = err_from_is_err_and c.from_residual.result c.from_residual.ensures.1 in
    rw (p.1, p.2) (tells_here _ _ c.in_err-metaclasses_descend.field-0.0 c.in_err-metaclasses_descend.ensures)

pub returns-in_err-all_types_known : goal.returns-in_err-all_types_known
returns-in_err-all_types_known c =
    let p = err_from_is_err_and c.from_residual-in_err-all_types_known.result c.from_residual-in_err-all_types_known.ensures.1 in
    rw (p.1, p.2) (tells_later _ _ (Err c.in_err-all_types_known.field-0.0) c.in_ok-metaclasses_descend.ensures (tells_here _ _ c.in_err-all_types_known.field-0.0 c.in_err-all_types_known.ensures))

pub returns : goal.returns
returns c = tells_later _ _ c.members_hold.result c.in_ok-metaclasses_descend.ensures (tells_later _ _ c.members_hold.result c.in_ok-all_types_known.ensures c.members_hold.ensures)
