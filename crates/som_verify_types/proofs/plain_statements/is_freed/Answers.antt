use Rattle.std.proofs.lemmas.Result.{err_from_is_err_and}
use Rattle.som_model.specs.Typing.{is_class}
use Rattle.som_verify_forms.specs.Knowing.{all_of}
use Rattle.som_verify_forms.specs.Scopes.{valued_by}
use Rattle.som_verify_forms.proofs.Keeping.{part_fails, tested}
use Rattle.som_verify_types.proofs.plain_statements.is_freed.Goals as goal

pub returns-in_err-given : goal.returns-in_err-given
returns-in_err-given c =
    let p = err_from_is_err_and c.from_residual.result c.from_residual.ensures.1 in
    rw (p.1, p.2) (part_fails (all_of c.args.known.now) (valued_by c.args.known.now c.args.at.now c.args.scope.now c.args.value.now) _ c.in_err-given.field-0.0 c.in_err-given.ensures)

pub returns : goal.returns
returns c =
    tested (all_of c.args.known.now) (valued_by c.args.known.now c.args.at.now c.args.scope.now c.args.value.now) 17 is_class c.args.scope.now c.in_ok-given.given c.is_object.result c.demand.result
    c.in_ok-given.ensures.0 (c.is_object.ensures (all_of c.args.known.now)) c.demand.ensures
