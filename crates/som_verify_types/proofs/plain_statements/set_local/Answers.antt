use Rattle.std.proofs.Common.{slice_get}
use Rattle.std.proofs.lemmas.Result.{err_from_is_err_and}
use Rattle.som_model.specs.Typing.{there}
use Rattle.som_verify_forms.specs.Knowing.{all_of, facts_of}
use Rattle.som_verify_forms.specs.Scopes.{scope_at, valued_by}
use Rattle.som_verify_forms.proofs.Keeping.{assigned, part_fails, unassigned}
use Rattle.som_verify_types.proofs.plain_statements.set_local.Goals as goal

pub returns-in_err-given : goal.returns-in_err-given
returns-in_err-given c =
    let p = err_from_is_err_and c.from_residual.result c.from_residual.ensures.1 in
    rw (p.1, p.2) (part_fails (all_of c.args.known.now) (valued_by c.args.known.now c.args.at.now c.args.scope.now c.args.value.now) _ c.in_err-given.field-0.0 c.in_err-given.ensures)

pub returns-in_err-wanted : goal.returns-in_err-wanted
returns-in_err-wanted c =
    let p = err_from_is_err_and c.from_residual-in_err-wanted.result c.from_residual-in_err-wanted.ensures.1 in
    let cs = all_of c.args.known.now in
    rw (p.1, p.2) (unassigned cs (facts_of c.args.known.now) (valued_by c.args.known.now c.args.at.now c.args.scope.now c.args.value.now) (there 16 (slice_get (scope_at cs c.args.scope.now) c.args.local)) (scope_at cs c.args.scope.now) c.in_ok-given.given c.in_err-wanted.field-0.0
    c.in_ok-given.ensures.0 (c.in_err-wanted.ensures cs c.requires.scope))

pub returns : goal.returns
returns c =
    let cs = all_of c.args.known.now in
    assigned cs (facts_of c.args.known.now) (valued_by c.args.known.now c.args.at.now c.args.scope.now c.args.value.now) (there 16 (slice_get (scope_at cs c.args.scope.now) c.args.local)) c.args.scope.now c.in_ok-given.given c.in_ok-wanted.wanted c.kind_fits.result c.demand.result
    c.in_ok-given.ensures.0 (c.in_ok-wanted.ensures cs c.requires.scope).0 c.kind_fits.ensures c.demand.ensures
