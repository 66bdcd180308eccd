use Rattle.std.proofs.lemmas.Result.{err_from_is_err_and}
use Rattle.som_model.specs.Blocks.{is_call}
use Rattle.som_verify_forms.specs.Knowing.{all_of}
use Rattle.som_verify_forms.specs.Knowing.{typed_by}
use Rattle.som_verify_forms.proofs.Keeping.{part_fails, tested}
use Rattle.som_verify_types.proofs.plain_statements.call_stands.Goals as goal

pub returns-in_err-_answer : goal.returns-in_err-_answer
returns-in_err-_answer c =
    let p = err_from_is_err_and c.from_residual.result c.from_residual.ensures.1 in
    rw (p.1, p.2) (part_fails (all_of c.args.known.now) (typed_by c.args.known.now c.args.at.now c.args.scope.now c.args.call.now) _ c.in_err-_answer.field-0.0 c.in_err-_answer.ensures)

pub returns : goal.returns
returns c =
    tested (all_of c.args.known.now) (typed_by c.args.known.now c.args.at.now c.args.scope.now c.args.call.now) 20 (λ t. is_call c.args.call.now) c.args.scope.now c.in_ok-_answer._answer c.is_call.result c.demand.result
    c.in_ok-_answer.ensures.0 c.is_call.ensures c.demand.ensures
