use Rattle.std.proofs.Common.{refl}
use Rattle.std.proofs.lemmas.Result.{err_from_is_err_and}
use Rattle.som_sema_scope.specs.ClassNames.{module_in_scope, type_of}
use Rattle.som_elab_body.specs.Code.{among_at, classes_at, typed_at}
use Rattle.som_elab_body.specs.Stated.{names_in, value_in}
use Rattle.som_elab_body.specs.Statements.{declared}
use Rattle.som_elab_body.proofs.NamesInScope.{declares}
use Rattle.som_elab_body.proofs.Stating.{part_stops}
use Rattle.som_elab_body.proofs.TextSteps.{value_there}
use Rattle.som_elab_body.proofs.statements.declare_local.Goals as goal

pub returns-in_err-made : goal.returns-in_err-made
returns-in_err-made c =
    let p = err_from_is_err_and c.from_residual.result c.from_residual.ensures.1 in
    rw (p.1, p.2) (part_stops (value_in c.args.context.now c.args.locals.now.items c.args.value.now) (declared (among_at c.args.context.now) (names_in c.args.context.now c.args.locals.now.items) c.args.name.now (type_of (module_in_scope c.args.context.now.scope.now) c.args.kind.now)) c.in_err-made.field-0.0 (rw c.as_slice-before.ensures.value at c.in_err-made.ensures))

pub returns-in_err-wanted : goal.returns-in_err-wanted
returns-in_err-wanted c =
    let p = err_from_is_err_and c.from_residual-in_err-wanted.result c.from_residual-in_err-wanted.ensures.1 in
    rw (p.1, p.2) (value_there (value_in c.args.context.now c.args.locals.now.items c.args.value.now) (declared (among_at c.args.context.now) (names_in c.args.context.now c.args.locals.now.items) c.args.name.now (type_of (module_in_scope c.args.context.now.scope.now) c.args.kind.now)) (typed_at (classes_at c.args.context.now) c.in_ok-made.made) c.in_err-wanted.field-0.0 (rw c.as_slice-before.ensures.value at c.in_ok-made.ensures).0
    (rw (c.as_slice-before.ensures.value, c.get.ensures, c.in_ok-kind.ensures, c.in_ok-found.ensures) at (c.in_err-wanted.ensures c.in_ok-made.made.expr)))

pub returns : goal.returns
returns c =
    rw (c.in_ok-kind.ensures, c.in_ok-found.ensures) (declares (classes_at c.args.context.now) c.args.locals.now.items _ c.args.name.now (type_of (module_in_scope c.args.context.now.scope.now) c.args.kind.now) (value_in c.args.context.now c.args.locals.now.items c.args.value.now) (declared (among_at c.args.context.now) (names_in c.args.context.now c.args.locals.now.items) c.args.name.now (type_of (module_in_scope c.args.context.now.scope.now) c.args.kind.now)) (typed_at (classes_at c.args.context.now) c.in_ok-made.made) _
    (rw c.as_slice-before.ensures.value at c.in_ok-made.ensures).0 (rw (c.as_slice-before.ensures.value, c.get.ensures, c.in_ok-kind.ensures, c.in_ok-found.ensures) at (c.in_ok-wanted.ensures c.in_ok-made.made.expr))
    refl c.requires.locals c.in_ok-push.ensures.items)
