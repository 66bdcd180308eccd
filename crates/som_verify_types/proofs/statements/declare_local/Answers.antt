use Rattle.std.proofs.Common.{sym, ◌∙◌}
use Rattle.std.proofs.lemmas.Result.{err_from_is_err_and}
use Rattle.som_verify_forms.specs.Knowing.{all_of, facts_of}
use Rattle.som_verify_forms.specs.Scopes.{scope_at, valued_by}
use Rattle.som_verify_forms.proofs.Keeping.{declares, part_fails, var_misfits}
use Rattle.som_verify_types.proofs.statements.declare_local.Goals as goal

pub returns-in_err-given : goal.returns-in_err-given
returns-in_err-given c =
    let p = err_from_is_err_and c.from_residual.result c.from_residual.ensures.1 in
    rw (p.1, p.2) (part_fails (all_of c.args.known.now) (valued_by c.args.known.now c.args.at.now c.args.scope.now.items c.args.value.now) _ c.in_err-given.field-0.0 (rw c.as_slice.ensures.value at c.in_err-given.ensures))

pub returns-then-not-kind_fits : goal.returns-then-not-kind_fits
returns-then-not-kind_fits c = var_misfits (all_of c.args.known.now) (facts_of c.args.known.now) (valued_by c.args.known.now c.args.at.now c.args.scope.now.items c.args.value.now) (scope_at (all_of c.args.known.now) c.args.scope.now.items) c.args.kind.now c.in_ok-given.given c.in-Some.wanted (rw c.as_slice.ensures.value at c.in_ok-given.ensures).0 (sym c.in-Some.ensures.known) c.in-Some.ensures.is (sym c.kind_fits.ensures ∙ c.if-not-kind_fits.true)

pub returns-in_ok-push-in-Some : goal.returns-in_ok-push-in-Some
returns-in_ok-push-in-Some c = declares (all_of c.args.known.now) (facts_of c.args.known.now) (valued_by c.args.known.now c.args.at.now c.args.scope.now.items c.args.value.now) c.args.scope.now.items _ c.args.kind.now c.in_ok-given.given c.in-Some.wanted (rw c.as_slice.ensures.value at c.in_ok-given.ensures).0 (sym c.in-Some.ensures.known) c.in-Some.ensures.is (sym c.kind_fits.ensures ∙ c.if-not-kind_fits.false) c.in-Some.ensures.stands c.requires.scope c.in_ok-push-in-Some.ensures.items
