use Rattle.std.proofs.Common.{◌≡◌, List, ap, ◌∙◌, subst, Ok}
use Rattle.std.proofs.lemmas.Result.{err_from_is_err_and}
use Rattle.som_elab_body.specs.declared.local.Local.{Local}
use Rattle.som_elab_body.specs.Code.{among_at, classes_at, typed_at, place_at}
use Rattle.som_elab_body.specs.BlockCode.{Stops}
use Rattle.som_elab_body.specs.Stated.{block_in, by_value, expr_in, names_in, stmt_in, value_in}
use Rattle.som_elab_body.specs.Statements.{call_statement, elaborated_stmt, freed, printed, returned, ruled, set_local, set_variable}
use Rattle.som_elab_body.proofs.Stating.{part_stops}
use Rattle.som_elab_body.proofs.TextForms as forms
use Rattle.som_elab_body.proofs.TextSteps.{as_before, begins, breaks, ends, formed, goes_on, goes_to, if_kept, leaves, plainly, then_stops, value_there, while_kept}
use Rattle.som_elab_body.proofs.statements.+statements.Goals as goal

pub block-loop-part-init : goal.block-loop-part-init
block-loop-part-init t c = rw c.new-statements.ensures (begins (classes_at c.args.context.now) (elaborated_stmt (among_at c.args.context.now) (place_at c.args.context.now)) c.args.text.now.statements c.args.locals.now.items c.requires.locals)

pub block-loop-part-preserved : goal.block-loop-part-preserved
block-loop-part-preserved t c = rw c.in_ok-push.ensures.ok (goes_on (classes_at c.args.context.now) (elaborated_stmt (among_at c.args.context.now) (place_at c.args.context.now)) c.args.text.now.statements c.loop-part.part-index c.part-item.result c.args.locals.now.items c.loop-part.locals.items _ c.loop-part.statements c.in_ok-made.made (rw c.as_slice-part-items.ensures at c.loop-part-test.true) (rw c.as_slice-part-items.ensures at c.part-item.is) c.in_ok-made.ensures c.loop-part.invariant)

pub block-returns-in_err-made-clause-makes : goal.block-returns-in_err-made-clause-makes
block-returns-in_err-made-clause-makes t c =
    let p = err_from_is_err_and c.from_residual.result c.from_residual.ensures.1 in
    rw (p.1, p.2) (breaks (classes_at c.args.context.now) (among_at c.args.context.now) (place_at c.args.context.now) c.args.text.now c.loop-part.part-index c.part-item.result c.args.locals.now.items c.loop-part.locals.items c.loop-part.statements c.in_err-made.field-0.0 (rw c.as_slice-part-items.ensures at c.loop-part-test.true) (rw c.as_slice-part-items.ensures at c.part-item.is) c.in_err-made.ensures c.loop-part.invariant)

pub block-returns-clause-makes : goal.block-returns-clause-makes
block-returns-clause-makes t c = ends (classes_at c.args.context.now) (among_at c.args.context.now) (place_at c.args.context.now) c.args.text.now c.loop-part.part-index c.args.locals.now.items c.loop-part.locals.items c.loop-part.statements (rw c.as_slice-part-items.ensures at c.loop-part-test.false) c.loop-part.invariant

pub block-returns-clause-scope : goal.block-returns-clause-scope
block-returns-clause-scope t c = rw (c.truncate.ensures.items, c.as_slice-before.ensures.value) (as_before (classes_at c.args.context.now) (elaborated_stmt (among_at c.args.context.now) (place_at c.args.context.now)) c.args.text.now.statements _ c.args.locals.now.items c.loop-part.locals.items c.loop-part.statements c.loop-part.invariant)

pub statement-returns-in-Var : goal.statement-returns-in-Var
statement-returns-in-Var t c =
    formed (classes_at c.args.context.now) (stmt_in c.args.context.now c.args.locals.now.items c.args.text.now) _ c.args.locals.now.items _ c.declare_local.result
    (ap (stmt_in c.args.context.now c.args.locals.now.items) c.in-Var.is ∙ forms.var_is (among_at c.args.context.now) (place_at c.args.context.now) (names_in c.args.context.now c.args.locals.now.items) c.in-Var.name c.in-Var.kind c.in-Var.value) (rw c.as_slice.ensures at c.declare_local.ensures)

pub statement-returns-in-Set : goal.statement-returns-in-Set
statement-returns-in-Set t c =
    plainly (classes_at c.args.context.now) (stmt_in c.args.context.now c.args.locals.now.items c.args.text.now) (λ shown. by_value (value_in c.args.context.now shown c.in-Set.value) (set_local (among_at c.args.context.now) (names_in c.args.context.now shown) c.in-Set.name.text)) c.args.locals.now.items _ c.set_local.result c.requires.locals c.as_slice-in-Set.ensures.value
    (ap (stmt_in c.args.context.now c.args.locals.now.items) c.in-Set.is ∙ forms.set_is (among_at c.args.context.now) (place_at c.args.context.now) (names_in c.args.context.now c.args.locals.now.items) c.in-Set.name c.in-Set.value) (rw c.as_slice-in-Set-2.ensures at c.set_local.ensures)

pub statement-returns-in-SetVariable : goal.statement-returns-in-SetVariable
statement-returns-in-SetVariable t c =
    plainly (classes_at c.args.context.now) (stmt_in c.args.context.now c.args.locals.now.items c.args.text.now) (λ shown. by_value (value_in c.args.context.now shown c.in-SetVariable.value) (set_variable (among_at c.args.context.now) (place_at c.args.context.now) (names_in c.args.context.now shown) c.in-SetVariable.name.text)) c.args.locals.now.items _ c.set_variable.result c.requires.locals c.as_slice-in-SetVariable.ensures.value
    (ap (stmt_in c.args.context.now c.args.locals.now.items) c.in-SetVariable.is ∙ forms.set_variable_is (among_at c.args.context.now) (place_at c.args.context.now) (names_in c.args.context.now c.args.locals.now.items) c.in-SetVariable.name c.in-SetVariable.value) (rw c.as_slice-in-SetVariable-2.ensures at c.set_variable.ensures)

pub statement-returns-in-If : goal.statement-returns-in-If
statement-returns-in-If t c =
    formed (classes_at c.args.context.now) (stmt_in c.args.context.now c.args.locals.now.items c.args.text.now) _ c.args.locals.now.items _ c.choice.result
    (ap (stmt_in c.args.context.now c.args.locals.now.items) c.in-If.is ∙ forms.if_is (among_at c.args.context.now) (place_at c.args.context.now) (names_in c.args.context.now c.args.locals.now.items) c.in-If.condition c.in-If.then c.in-If.other) c.choice.ensures

pub statement-returns-in-While : goal.statement-returns-in-While
statement-returns-in-While t c =
    formed (classes_at c.args.context.now) (stmt_in c.args.context.now c.args.locals.now.items c.args.text.now) _ c.args.locals.now.items _ c.repetition.result
    (ap (stmt_in c.args.context.now c.args.locals.now.items) c.in-While.is ∙ forms.while_is (among_at c.args.context.now) (place_at c.args.context.now) (names_in c.args.context.now c.args.locals.now.items) c.in-While.condition c.in-While.block) c.repetition.ensures

pub statement-returns-in-Return : goal.statement-returns-in-Return
statement-returns-in-Return t c =
    plainly (classes_at c.args.context.now) (stmt_in c.args.context.now c.args.locals.now.items c.args.text.now) (λ shown. ruled (returned (among_at c.args.context.now) (place_at c.args.context.now) (names_in c.args.context.now shown) c.in-Return.value)) c.args.locals.now.items _ c.answer.result c.requires.locals c.as_slice-in-Return.ensures.value
    (ap (stmt_in c.args.context.now c.args.locals.now.items) c.in-Return.is ∙ forms.return_is (among_at c.args.context.now) (place_at c.args.context.now) (names_in c.args.context.now c.args.locals.now.items) c.in-Return.value) c.answer.ensures

pub statement-returns-in-Print : goal.statement-returns-in-Print
statement-returns-in-Print t c =
    plainly (classes_at c.args.context.now) (stmt_in c.args.context.now c.args.locals.now.items c.args.text.now) (λ shown. by_value (value_in c.args.context.now shown c.in-Print.value) (printed (names_in c.args.context.now shown))) c.args.locals.now.items _ c.print.result c.requires.locals c.as_slice-in-Print.ensures.value
    (ap (stmt_in c.args.context.now c.args.locals.now.items) c.in-Print.is ∙ forms.print_is (among_at c.args.context.now) (place_at c.args.context.now) (names_in c.args.context.now c.args.locals.now.items) c.in-Print.value) c.print.ensures

pub statement-returns-in-Free : goal.statement-returns-in-Free
statement-returns-in-Free t c =
    plainly (classes_at c.args.context.now) (stmt_in c.args.context.now c.args.locals.now.items c.args.text.now) (λ shown. by_value (value_in c.args.context.now shown c.in-Free.value) (freed (names_in c.args.context.now shown))) c.args.locals.now.items _ c.free.result c.requires.locals c.as_slice-in-Free.ensures.value
    (ap (stmt_in c.args.context.now c.args.locals.now.items) c.in-Free.is ∙ forms.free_is (among_at c.args.context.now) (place_at c.args.context.now) (names_in c.args.context.now c.args.locals.now.items) c.in-Free.value) c.free.ensures

pub statement-returns-in-Call : goal.statement-returns-in-Call
statement-returns-in-Call t c =
    plainly (classes_at c.args.context.now) (stmt_in c.args.context.now c.args.locals.now.items c.args.text.now) (λ shown. by_value (expr_in c.args.context.now shown c.in-Call.text) (call_statement (names_in c.args.context.now shown))) c.args.locals.now.items _ c.call.result c.requires.locals c.as_slice-in-Call.ensures.value
    (ap (stmt_in c.args.context.now c.args.locals.now.items) c.in-Call.is ∙ forms.call_is (among_at c.args.context.now) (place_at c.args.context.now) (names_in c.args.context.now c.args.locals.now.items) c.in-Call.text) c.call.ensures

pub choice-returns-in_err-expr : goal.choice-returns-in_err-expr
choice-returns-in_err-expr t c =
    let p = err_from_is_err_and c.from_residual.result c.from_residual.ensures.1 in
    rw (p.1, p.2) (part_stops (value_in c.args.context.now c.args.locals.now.items c.args.condition.now) _ c.in_err-expr.field-0.0 (rw c.as_slice.ensures.value at c.in_err-expr.ensures))

pub choice-returns-in_err-then : goal.choice-returns-in_err-then
choice-returns-in_err-then t c =
    let p = err_from_is_err_and c.from_residual-in_err-then.result c.from_residual-in_err-then.ensures.1 in
    let e = c.in_err-then.field-0.0 in
    rw (p.1, p.2) (value_there (value_in c.args.context.now c.args.locals.now.items c.args.condition.now) _ (typed_at (classes_at c.args.context.now) c.in_ok-expr.field-0) e (rw c.as_slice.ensures.value at c.in_ok-expr.ensures).0 (then_stops (block_in c.args.context.now c.args.locals.now.items c.args.then.now) _ e c.in_err-then.ensures.makes))

pub choice-returns-in_err-other : goal.choice-returns-in_err-other
choice-returns-in_err-other t c =
    let p = err_from_is_err_and c.from_residual-in_err-other.result c.from_residual-in_err-other.ensures.1 in
    let e = c.in_err-other.field-0.0 in
    let f : Stops (block_in c.args.context.now c.args.locals.now.items c.args.other.now) e = subst (λ (z : List Local). Stops (block_in c.args.context.now z c.args.other.now) e) c.in_ok-then.ensures.scope c.in_err-other.ensures.makes in
    rw (p.1, p.2) (value_there (value_in c.args.context.now c.args.locals.now.items c.args.condition.now) _ (typed_at (classes_at c.args.context.now) c.in_ok-expr.field-0) e (rw c.as_slice.ensures.value at c.in_ok-expr.ensures).0 (goes_to (block_in c.args.context.now c.args.locals.now.items c.args.then.now) _ c.in_ok-then.then e c.in_ok-then.ensures.makes (then_stops (block_in c.args.context.now c.args.locals.now.items c.args.other.now) _ e f)))

pub choice-returns : goal.choice-returns
choice-returns t c =
    let same = c.in_ok-then.ensures.scope in
    let g = subst (λ (z : List Local). block_in c.args.context.now z c.args.other.now ≡ Ok c.in_ok-other.other) same c.in_ok-other.ensures.makes in
    leaves (classes_at c.args.context.now) _ c.args.locals.now.items _ c.demanded.result c.requires.locals (c.in_ok-other.ensures.scope ∙ same)
    (if_kept (classes_at c.args.context.now) c.args.locals.now.items (value_in c.args.context.now c.args.locals.now.items c.args.condition.now) (typed_at (classes_at c.args.context.now) c.in_ok-expr.field-0) (block_in c.args.context.now c.args.locals.now.items c.args.then.now) (block_in c.args.context.now c.args.locals.now.items c.args.other.now) c.in_ok-then.then c.in_ok-other.other c.is_boolean.result c.demanded.result
    (rw c.as_slice.ensures.value at c.in_ok-expr.ensures).0 c.in_ok-then.ensures.makes g (c.is_boolean.ensures (classes_at c.args.context.now)) (rw (c.in_ok-new.ensures, c.in_ok-new-2.ensures) at c.demanded.ensures))

pub repetition-returns-in_err-expr : goal.repetition-returns-in_err-expr
repetition-returns-in_err-expr t c =
    let p = err_from_is_err_and c.from_residual.result c.from_residual.ensures.1 in
    rw (p.1, p.2) (part_stops (value_in c.args.context.now c.args.locals.now.items c.args.condition.now) _ c.in_err-expr.field-0.0 (rw c.as_slice.ensures.value at c.in_err-expr.ensures))

pub repetition-returns-in_err-body : goal.repetition-returns-in_err-body
repetition-returns-in_err-body t c =
    let p = err_from_is_err_and c.from_residual-in_err-body.result c.from_residual-in_err-body.ensures.1 in
    let e = c.in_err-body.field-0.0 in
    rw (p.1, p.2) (value_there (value_in c.args.context.now c.args.locals.now.items c.args.condition.now) _ (typed_at (classes_at c.args.context.now) c.in_ok-expr.field-0) e (rw c.as_slice.ensures.value at c.in_ok-expr.ensures).0 (then_stops (block_in c.args.context.now c.args.locals.now.items c.args.body.now) _ e c.in_err-body.ensures.makes))

pub repetition-returns : goal.repetition-returns
repetition-returns t c =
    leaves (classes_at c.args.context.now) _ c.args.locals.now.items _ c.demanded.result c.requires.locals c.in_ok-body.ensures.scope
    (while_kept (classes_at c.args.context.now) c.args.locals.now.items (value_in c.args.context.now c.args.locals.now.items c.args.condition.now) (typed_at (classes_at c.args.context.now) c.in_ok-expr.field-0) (block_in c.args.context.now c.args.locals.now.items c.args.body.now) c.in_ok-body.body c.is_boolean.result c.demanded.result
    (rw c.as_slice.ensures.value at c.in_ok-expr.ensures).0 c.in_ok-body.ensures.makes (c.is_boolean.ensures (classes_at c.args.context.now)) (rw c.in_ok-new.ensures at c.demanded.ensures))
