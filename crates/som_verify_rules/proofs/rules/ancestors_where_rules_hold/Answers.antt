use Rattle.std.proofs.Common.{◌≡◌, ap, flat_map, sym, ◌∙◌, subst, Err, None}
use Rattle.std.proofs.lemmas.Result.{err_from_is_err_and}
use Rattle.som_model.specs.Lists.{first}
use Rattle.som_model.specs.Rules.{s14}
use Rattle.som_verify_classes.specs.Modules.{class_of, classes_of}
use Rattle.som_verify_classes.specs.Told.{Tells}
use Rattle.som_verify_classes.proofs.Conformity.{both_none, tells_after, tells_here}
use Rattle.som_verify_classes.proofs.DeclaredClasses.{drop_map}
use Rattle.som_verify_classes.proofs.Sets.{rest_is}
use Rattle.som_verify_rules.proofs.rules.ancestors_where_rules_hold.Goals as goal

pub returns-in_err-lists-clause-tells : goal.returns-in_err-lists-clause-tells
returns-in_err-lists-clause-tells c =
    let p = err_from_is_err_and c.from_residual.result c.from_residual.ensures.1 in
    rw (p.1, p.2) (tells_here _ _ c.in_err-lists.field-0.0 c.in_err-lists.ensures.tells)

pub returns-in_err-bodies_fit-clause-tells : goal.returns-in_err-bodies_fit-clause-tells
returns-in_err-bodies_fit-clause-tells c =
    let p = err_from_is_err_and c.from_residual-in_err-bodies_fit.result c.from_residual-in_err-bodies_fit.ensures.1 in
    rw (p.1, p.2) (tells_after {A = Unit {0}} _ _ (Err c.in_err-bodies_fit.field-0.0) c.in_ok-lists.ensures.tells
    (subst (λ z. Tells {A = Unit {0}} (first (flat_map s14 z)) (Err c.in_err-bodies_fit.field-0.0)) (ap classes_of (rest_is c.args.classes.now c.args.base) ∙ sym (drop_map class_of c.args.classes.now c.args.base)) c.in_err-bodies_fit.ensures))

pub returns-clause-tells : goal.returns-clause-tells
returns-clause-tells c =
    both_none _ _ c.in_ok-lists.ensures.tells
    (subst (λ z. first (flat_map s14 z) ≡ None) (ap classes_of (rest_is c.args.classes.now c.args.base) ∙ sym (drop_map class_of c.args.classes.now c.args.base)) c.in_ok-bodies_fit.ensures)
