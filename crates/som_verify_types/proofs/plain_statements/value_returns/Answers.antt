use Rattle.std.proofs.Common.{not, ◌&&◌}
use Rattle.std.proofs.lemmas.Result.{err_from_is_err_and}
use Rattle.som_model.specs.Typing.{Of, fits, is_nothing}
use Rattle.som_verify_forms.specs.Kinds.{type_at}
use Rattle.som_verify_forms.specs.Knowing.{all_of, facts_of}
use Rattle.som_verify_forms.specs.Scopes.{valued_by}
use Rattle.som_verify_forms.proofs.Keeping.{part_fails, tested}
use Rattle.som_verify_types.proofs.plain_statements.value_returns.Goals as goal

pub returns-in_err-given : goal.returns-in_err-given
returns-in_err-given c =
    let p = err_from_is_err_and c.from_residual.result c.from_residual.ensures.1 in
    rw (p.1, p.2) (part_fails (all_of c.args.known.now) (valued_by c.args.known.now c.args.at.now c.args.scope.now c.args.value.now) _ c.in_err-given.field-0.0 c.in_err-given.ensures)

pub returns : goal.returns
returns c =
    let cs = all_of c.args.known.now in
    tested cs (valued_by c.args.known.now c.args.at.now c.args.scope.now c.args.value.now) 19
    (λ t. not (is_nothing (Of (type_at cs c.args.at.now.result))) && fits (facts_of c.args.known.now) (type_at cs c.args.at.now.result) t)
    c.args.scope.now c.in_ok-given.given c.is_answer.result c.demand.result c.in_ok-given.ensures.0 c.is_answer.ensures c.demand.ensures
