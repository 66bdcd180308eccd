use Rattle.std.proofs.Common.{◌≡◌, List, refl, ap, ◌∙◌, subst, Ok}
use Rattle.std.proofs.lemmas.Result.{err_from_is_err_and}
use Rattle.som_model.specs.Typing.{has_text, is_class, needs}
use Rattle.som_model.specs.TypedBlocks.{call_statement, local_set, plain_return, value_return, variable_set}
use Rattle.som_verify_forms.specs.declared.kind.Kind.{Kind}
use Rattle.som_verify_forms.specs.Kinds.{Fails, code_at}
use Rattle.som_verify_forms.specs.Knowing.{all_of, facts_of}
use Rattle.som_verify_forms.specs.Scopes.{blocked_by, scope_at, stated_by, then_scope, valued_by}
use Rattle.som_verify_types.proofs.BlockSteps.{after_block, after_part, begins, breaks, ends, formed, goes_on, if_kept, kept, plainly, while_kept}
use Rattle.som_verify_forms.proofs.Keeping.{part_fails, then_fails}
use Rattle.som_verify_types.proofs.TypedForms as forms
use Rattle.som_verify_types.proofs.statements.+statements.Goals as goal

pub block_typed-loop-statement-init : goal.block_typed-loop-statement-init
block_typed-loop-statement-init t c = begins (all_of c.args.known.now) (facts_of c.args.known.now) (code_at (all_of c.args.known.now) c.args.at.now) c.args.block.now.statements c.args.scope.now.items c.requires.scope

pub block_typed-loop-statement-preserved : goal.block_typed-loop-statement-preserved
block_typed-loop-statement-preserved t c = goes_on (all_of c.args.known.now) (facts_of c.args.known.now) (code_at (all_of c.args.known.now) c.args.at.now) c.args.block.now.statements c.loop-statement.statement-index c.statement-item.result c.args.scope.now.items c.loop-statement.scope.items _ (rw c.as_slice-statement-items.ensures at c.loop-statement-test.true) (rw c.as_slice-statement-items.ensures at c.statement-item.is) c.in_ok-statement_typed.ensures c.loop-statement.invariant

pub block_typed-returns-in_err-statement_typed : goal.block_typed-returns-in_err-statement_typed
block_typed-returns-in_err-statement_typed t c =
    let p = err_from_is_err_and c.from_residual.result c.from_residual.ensures.1 in
    rw (p.1, p.2) (breaks (all_of c.args.known.now) (facts_of c.args.known.now) (code_at (all_of c.args.known.now) c.args.at.now) c.args.block.now c.loop-statement.statement-index c.statement-item.result c.args.scope.now.items c.loop-statement.scope.items c.in_err-statement_typed.field-0.0 (rw c.as_slice-statement-items.ensures at c.loop-statement-test.true) (rw c.as_slice-statement-items.ensures at c.statement-item.is) c.in_err-statement_typed.ensures c.loop-statement.invariant)

pub block_typed-returns : goal.block_typed-returns
block_typed-returns t c = rw (c.truncate.ensures.items, c.as_slice-before.ensures.value) (ends (all_of c.args.known.now) (facts_of c.args.known.now) (code_at (all_of c.args.known.now) c.args.at.now) c.args.block.now c.loop-statement.statement-index c.args.scope.now.items c.loop-statement.scope.items (rw c.as_slice-statement-items.ensures at c.loop-statement-test.false) c.loop-statement.invariant)

pub statement_typed-returns-in-Var : goal.statement_typed-returns-in-Var
statement_typed-returns-in-Var t c =
    formed (all_of c.args.known.now) (stated_by c.args.known.now c.args.at.now c.args.scope.now.items c.args.statement.now) _ c.args.scope.now.items _ c.declare_local.result
    (ap (stated_by c.args.known.now c.args.at.now c.args.scope.now.items) c.in-Var.is ∙ forms.var_typed (facts_of c.args.known.now) (code_at (all_of c.args.known.now) c.args.at.now) (scope_at (all_of c.args.known.now) c.args.scope.now.items) c.in-Var.kind c.in-Var.value) (rw (c.get.ensures, c.get-in-Var.ensures) at c.declare_local.ensures)

pub statement_typed-returns-in-SetLocal : goal.statement_typed-returns-in-SetLocal
statement_typed-returns-in-SetLocal t c =
    plainly (all_of c.args.known.now) (stated_by c.args.known.now c.args.at.now c.args.scope.now.items c.args.statement.now) (λ shown. then_scope (valued_by c.args.known.now c.args.at.now shown c.in-SetLocal.value) (local_set (facts_of c.args.known.now) (scope_at (all_of c.args.known.now) shown) c.in-SetLocal.local)) c.args.scope.now.items _ c.set_local.result c.requires.scope c.as_slice.ensures.value
    (ap (stated_by c.args.known.now c.args.at.now c.args.scope.now.items) c.in-SetLocal.is ∙ forms.set_local_typed (facts_of c.args.known.now) (code_at (all_of c.args.known.now) c.args.at.now) (scope_at (all_of c.args.known.now) c.args.scope.now.items) c.in-SetLocal.local c.in-SetLocal.value) (rw c.get-in-SetLocal.ensures at c.set_local.ensures)

pub statement_typed-returns-in-SetVariable : goal.statement_typed-returns-in-SetVariable
statement_typed-returns-in-SetVariable t c =
    plainly (all_of c.args.known.now) (stated_by c.args.known.now c.args.at.now c.args.scope.now.items c.args.statement.now) (λ shown. then_scope (valued_by c.args.known.now c.args.at.now shown c.in-SetVariable.value) (variable_set (facts_of c.args.known.now) (code_at (all_of c.args.known.now) c.args.at.now) (scope_at (all_of c.args.known.now) shown) c.in-SetVariable.variable)) c.args.scope.now.items _ c.set_variable.result c.requires.scope c.as_slice-in-SetVariable.ensures.value
    (ap (stated_by c.args.known.now c.args.at.now c.args.scope.now.items) c.in-SetVariable.is ∙ forms.set_variable_typed (facts_of c.args.known.now) (code_at (all_of c.args.known.now) c.args.at.now) (scope_at (all_of c.args.known.now) c.args.scope.now.items) c.in-SetVariable.variable c.in-SetVariable.value) (rw c.get-in-SetVariable.ensures at c.set_variable.ensures)

pub statement_typed-returns-in-If : goal.statement_typed-returns-in-If
statement_typed-returns-in-If t c =
    formed (all_of c.args.known.now) (stated_by c.args.known.now c.args.at.now c.args.scope.now.items c.args.statement.now) _ c.args.scope.now.items _ c.if_typed.result
    (ap (stated_by c.args.known.now c.args.at.now c.args.scope.now.items) c.in-If.is ∙ forms.if_typed (facts_of c.args.known.now) (code_at (all_of c.args.known.now) c.args.at.now) (scope_at (all_of c.args.known.now) c.args.scope.now.items) c.in-If.condition c.in-If.then c.in-If.other) (rw (c.get-in-If.ensures, c.get-in-If-2.ensures, c.get-in-If-3.ensures) at c.if_typed.ensures)

pub statement_typed-returns-in-While : goal.statement_typed-returns-in-While
statement_typed-returns-in-While t c =
    formed (all_of c.args.known.now) (stated_by c.args.known.now c.args.at.now c.args.scope.now.items c.args.statement.now) _ c.args.scope.now.items _ c.while_typed.result
    (ap (stated_by c.args.known.now c.args.at.now c.args.scope.now.items) c.in-While.is ∙ forms.while_typed (facts_of c.args.known.now) (code_at (all_of c.args.known.now) c.args.at.now) (scope_at (all_of c.args.known.now) c.args.scope.now.items) c.in-While.condition c.in-While.block) (rw (c.get-in-While.ensures, c.get-in-While-2.ensures) at c.while_typed.ensures)

pub statement_typed-returns-in-Return : goal.statement_typed-returns-in-Return
statement_typed-returns-in-Return t c =
    plainly (all_of c.args.known.now) (stated_by c.args.known.now c.args.at.now c.args.scope.now.items c.args.statement.now) (λ shown. plain_return (code_at (all_of c.args.known.now) c.args.at.now) (scope_at (all_of c.args.known.now) shown)) c.args.scope.now.items c.args.scope.now.items c.return_stands.result c.requires.scope refl
    (ap (stated_by c.args.known.now c.args.at.now c.args.scope.now.items) c.in-Return.is ∙ forms.return_typed (facts_of c.args.known.now) (code_at (all_of c.args.known.now) c.args.at.now) (scope_at (all_of c.args.known.now) c.args.scope.now.items)) (c.return_stands.ensures (all_of c.args.known.now) c.args.scope.now.items c.requires.at)

pub statement_typed-returns-in-ReturnValue : goal.statement_typed-returns-in-ReturnValue
statement_typed-returns-in-ReturnValue t c =
    plainly (all_of c.args.known.now) (stated_by c.args.known.now c.args.at.now c.args.scope.now.items c.args.statement.now) (λ shown. then_scope (valued_by c.args.known.now c.args.at.now shown c.in-ReturnValue.value) (value_return (facts_of c.args.known.now) (code_at (all_of c.args.known.now) c.args.at.now) (scope_at (all_of c.args.known.now) shown))) c.args.scope.now.items _ c.value_returns.result c.requires.scope c.as_slice-in-ReturnValue.ensures.value
    (ap (stated_by c.args.known.now c.args.at.now c.args.scope.now.items) c.in-ReturnValue.is ∙ forms.value_return_typed (facts_of c.args.known.now) (code_at (all_of c.args.known.now) c.args.at.now) (scope_at (all_of c.args.known.now) c.args.scope.now.items) c.in-ReturnValue.value) (rw c.get-in-ReturnValue.ensures at c.value_returns.ensures)

pub statement_typed-returns-in-Print : goal.statement_typed-returns-in-Print
statement_typed-returns-in-Print t c =
    plainly (all_of c.args.known.now) (stated_by c.args.known.now c.args.at.now c.args.scope.now.items c.args.statement.now) (λ shown. then_scope (valued_by c.args.known.now c.args.at.now shown c.in-Print.value) (λ t. needs 17 (has_text t) (Ok (scope_at (all_of c.args.known.now) shown)))) c.args.scope.now.items _ c.is_printed.result c.requires.scope c.as_slice-in-Print.ensures.value
    (ap (stated_by c.args.known.now c.args.at.now c.args.scope.now.items) c.in-Print.is ∙ forms.print_typed (facts_of c.args.known.now) (code_at (all_of c.args.known.now) c.args.at.now) (scope_at (all_of c.args.known.now) c.args.scope.now.items) c.in-Print.value) (rw c.get-in-Print.ensures at c.is_printed.ensures)

pub statement_typed-returns-in-Free : goal.statement_typed-returns-in-Free
statement_typed-returns-in-Free t c =
    plainly (all_of c.args.known.now) (stated_by c.args.known.now c.args.at.now c.args.scope.now.items c.args.statement.now) (λ shown. then_scope (valued_by c.args.known.now c.args.at.now shown c.in-Free.value) (λ t. needs 17 (is_class t) (Ok (scope_at (all_of c.args.known.now) shown)))) c.args.scope.now.items _ c.is_freed.result c.requires.scope c.as_slice-in-Free.ensures.value
    (ap (stated_by c.args.known.now c.args.at.now c.args.scope.now.items) c.in-Free.is ∙ forms.free_typed (facts_of c.args.known.now) (code_at (all_of c.args.known.now) c.args.at.now) (scope_at (all_of c.args.known.now) c.args.scope.now.items) c.in-Free.value) (rw c.get-in-Free.ensures at c.is_freed.ensures)

pub statement_typed-returns-in-Call : goal.statement_typed-returns-in-Call
statement_typed-returns-in-Call t c =
    plainly (all_of c.args.known.now) (stated_by c.args.known.now c.args.at.now c.args.scope.now.items c.args.statement.now) (λ shown. call_statement (facts_of c.args.known.now) (code_at (all_of c.args.known.now) c.args.at.now) (scope_at (all_of c.args.known.now) shown) c.in-Call.call) c.args.scope.now.items _ c.call_stands.result c.requires.scope c.as_slice-in-Call.ensures.value
    (ap (stated_by c.args.known.now c.args.at.now c.args.scope.now.items) c.in-Call.is ∙ forms.call_typed (facts_of c.args.known.now) (code_at (all_of c.args.known.now) c.args.at.now) (scope_at (all_of c.args.known.now) c.args.scope.now.items) c.in-Call.call) (rw c.get-in-Call.ensures at c.call_stands.ensures)

pub if_typed-returns-in_err-tested : goal.if_typed-returns-in_err-tested
if_typed-returns-in_err-tested t c =
    let p = err_from_is_err_and c.from_residual.result c.from_residual.ensures.1 in
    rw (p.1, p.2) (part_fails (all_of c.args.known.now) (valued_by c.args.known.now c.args.at.now c.args.scope.now.items c.args.condition.now) _ c.in_err-tested.field-0.0 (rw c.as_slice.ensures.value at c.in_err-tested.ensures))

pub if_typed-returns-in_err-block_typed : goal.if_typed-returns-in_err-block_typed
if_typed-returns-in_err-block_typed t c =
    let p = err_from_is_err_and c.from_residual-in_err-block_typed.result c.from_residual-in_err-block_typed.ensures.1 in
    rw (p.1, p.2) (after_part (all_of c.args.known.now) (valued_by c.args.known.now c.args.at.now c.args.scope.now.items c.args.condition.now) c.in_ok-tested.tested _ c.in_err-block_typed.field-0.0 (rw c.as_slice.ensures.value at c.in_ok-tested.ensures).0 (then_fails (blocked_by c.args.known.now c.args.at.now c.args.scope.now.items c.args.then.now) _ c.in_err-block_typed.field-0.0 c.in_err-block_typed.ensures))

pub if_typed-returns-in_err-block_typed-2 : goal.if_typed-returns-in_err-block_typed-2
if_typed-returns-in_err-block_typed-2 t c =
    let p = err_from_is_err_and c.from_residual-in_err-block_typed-2.result c.from_residual-in_err-block_typed-2.ensures.1 in
    let e = c.in_err-block_typed-2.field-0.0 in
    let f : Fails (blocked_by c.args.known.now c.args.at.now c.args.scope.now.items c.args.other.now) e = subst (λ (z : List Kind). Fails (blocked_by c.args.known.now c.args.at.now z c.args.other.now) e) c.in_ok-block_typed.ensures.same c.in_err-block_typed-2.ensures in
    rw (p.1, p.2) (after_part (all_of c.args.known.now) (valued_by c.args.known.now c.args.at.now c.args.scope.now.items c.args.condition.now) c.in_ok-tested.tested _ e (rw c.as_slice.ensures.value at c.in_ok-tested.ensures).0 (after_block (blocked_by c.args.known.now c.args.at.now c.args.scope.now.items c.args.then.now) c.in_ok-block_typed.ensures.scope _ e c.in_ok-block_typed.ensures.ends (then_fails (blocked_by c.args.known.now c.args.at.now c.args.scope.now.items c.args.other.now) _ e f)))

pub if_typed-returns : goal.if_typed-returns
if_typed-returns t c =
    let same = c.in_ok-block_typed.ensures.same in
    let ends = subst (λ (z : List Kind). blocked_by c.args.known.now c.args.at.now z c.args.other.now ≡ Ok c.in_ok-block_typed-2.ensures.scope) same c.in_ok-block_typed-2.ensures.ends in
    kept (all_of c.args.known.now) _ c.args.scope.now.items _ c.demand.result c.requires.scope (c.in_ok-block_typed-2.ensures.same ∙ same)
    (if_kept (all_of c.args.known.now) (valued_by c.args.known.now c.args.at.now c.args.scope.now.items c.args.condition.now) c.in_ok-tested.tested (blocked_by c.args.known.now c.args.at.now c.args.scope.now.items c.args.then.now) (blocked_by c.args.known.now c.args.at.now c.args.scope.now.items c.args.other.now) c.in_ok-block_typed.ensures.scope c.in_ok-block_typed-2.ensures.scope c.args.scope.now.items c.is_boolean.result c.demand.result
    (rw c.as_slice.ensures.value at c.in_ok-tested.ensures).0 c.in_ok-block_typed.ensures.ends ends (c.is_boolean.ensures (all_of c.args.known.now)) c.demand.ensures)

pub while_typed-returns-in_err-tested : goal.while_typed-returns-in_err-tested
while_typed-returns-in_err-tested t c =
    let p = err_from_is_err_and c.from_residual.result c.from_residual.ensures.1 in
    rw (p.1, p.2) (part_fails (all_of c.args.known.now) (valued_by c.args.known.now c.args.at.now c.args.scope.now.items c.args.condition.now) _ c.in_err-tested.field-0.0 (rw c.as_slice.ensures.value at c.in_err-tested.ensures))

pub while_typed-returns-in_err-block_typed : goal.while_typed-returns-in_err-block_typed
while_typed-returns-in_err-block_typed t c =
    let p = err_from_is_err_and c.from_residual-in_err-block_typed.result c.from_residual-in_err-block_typed.ensures.1 in
    rw (p.1, p.2) (after_part (all_of c.args.known.now) (valued_by c.args.known.now c.args.at.now c.args.scope.now.items c.args.condition.now) c.in_ok-tested.tested _ c.in_err-block_typed.field-0.0 (rw c.as_slice.ensures.value at c.in_ok-tested.ensures).0 (then_fails (blocked_by c.args.known.now c.args.at.now c.args.scope.now.items c.args.block.now) _ c.in_err-block_typed.field-0.0 c.in_err-block_typed.ensures))

pub while_typed-returns : goal.while_typed-returns
while_typed-returns t c =
    kept (all_of c.args.known.now) _ c.args.scope.now.items _ c.demand.result c.requires.scope c.in_ok-block_typed.ensures.same
    (while_kept (all_of c.args.known.now) (valued_by c.args.known.now c.args.at.now c.args.scope.now.items c.args.condition.now) c.in_ok-tested.tested (blocked_by c.args.known.now c.args.at.now c.args.scope.now.items c.args.block.now) c.in_ok-block_typed.ensures.scope c.args.scope.now.items c.is_boolean.result c.demand.result
    (rw c.as_slice.ensures.value at c.in_ok-tested.ensures).0 c.in_ok-block_typed.ensures.ends (c.is_boolean.ensures (all_of c.args.known.now)) c.demand.ensures)
