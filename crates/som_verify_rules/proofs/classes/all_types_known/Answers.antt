use Rattle.std.proofs.Common.{refl}
use Rattle.std.proofs.lemmas.Result.{err_from_is_err_and}
use Rattle.som_verify_classes.proofs.DeclaredClasses.{known_number}
use Rattle.som_verify_classes.proofs.Sets.{base_stops, own_tells, rest_is}
use Rattle.som_verify_rules.proofs.classes.all_types_known.Goals as goal

pub returns-in_err-types_known : goal.returns-in_err-types_known
returns-in_err-types_known c =
    let p = err_from_is_err_and c.from_residual.result c.from_residual.ensures.1 in
    rw (p.1, p.2) (base_stops c.args.classes.now _ c.args.base _ c.in_err-types_known.field-0.0 refl refl c.in_err-types_known.ensures)

pub returns : goal.returns
returns c = own_tells c.args.classes.now _ _ c.args.base _ _ c.types_known-2.result refl refl (known_number c.args.classes.now) (rest_is c.args.classes.now c.args.base) c.in_ok-types_known.ensures c.types_known-2.ensures
