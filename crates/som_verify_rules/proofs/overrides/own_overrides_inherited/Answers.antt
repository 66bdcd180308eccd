use Rattle.std.proofs.Common.{map, ap}
use Rattle.std.proofs.lemmas.Result.{err_from_is_err_and}
use Rattle.som_verify_classes.specs.Inherited.{method_of}
use Rattle.som_verify_classes.specs.Modules.{class_of, classes_of}
use Rattle.som_verify_classes.specs.Places.{key_at, with_kernel}
use Rattle.som_verify_rules.proofs.Replacing.{overrides_tell, selects_tell}
use Rattle.som_verify_rules.proofs.overrides.own_overrides_inherited.Goals as goal

pub returns-in_err-overrides_follow : goal.returns-in_err-overrides_follow
returns-in_err-overrides_follow c =
    let p = err_from_is_err_and c.from_residual.result c.from_residual.ensures.1 in
    let cs = with_kernel (classes_of c.args.classes.now) in
    rw (p.1, p.2) (overrides_tell cs (key_at cs c.args.place) (class_of c.args.class.now) _ c.in_err-overrides_follow.field-0.0 (ap (map method_of) c.new-before.ensures.items) c.in_err-overrides_follow.ensures.tells)

pub returns : goal.returns
returns c =
    let cs = with_kernel (classes_of c.args.classes.now) in
    selects_tell cs (key_at cs c.args.place) (class_of c.args.class.now) _ _ c.selects_follow.result (ap (map method_of) c.new-before.ensures.items) c.in_ok-overrides_follow.ensures.tells c.in_ok-overrides_follow.ensures.owners c.selects_follow.ensures
