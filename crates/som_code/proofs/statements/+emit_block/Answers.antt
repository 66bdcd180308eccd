use Rattle.std.proofs.Common.{◌∙◌}
use Rattle.som_code.specs.declared.instruction.Instruction.TheVariants as ops
use Rattle.som_code.specs.Laid.{just, lay_expr, lay_block, lay_choice, set_local}
use Rattle.som_code.proofs.Emits.{on_ok, emits_then, choice_emits, loop_emits}
use Rattle.som_code.proofs.StmtForms.{stmt_laid}
use Rattle.som_model.specs.declared.syntax.Stmt.TheOpen.{Stmt-F}
use Rattle.som_model.specs.declared.syntax.Stmt.TheVariants.{rolls-Var, rolls-SetLocal, rolls-SetVariable, rolls-If, rolls-While, rolls-Return, rolls-ReturnValue, rolls-Print, rolls-Free, rolls-Call}
use Rattle.som_code.proofs.statements.+emit_block.Goals as goal

pub emit_choice-returns : goal.emit_choice-returns
emit_choice-returns t c =
    choice_emits c.args.code.now.items (ops.Unless 0) (lay_block c.args.then.now c.args.locals) (lay_block c.args.other.now c.args.locals) _ _ _ _ _ _ (ops.Jump 0) _ _ _
    (c.len-test.ensures ∙ c.args.code.now.ok.0) c.in_ok-emit.ensures c.in_ok-emit_block.ensures (c.len-jump.ensures ∙ c.emit_block.new.code.ok.0) c.in_ok-emit-2.ensures c.in_ok-emit_block-2.ensures
    c.patch.ensures (c.len-end.ensures ∙ c.patch.new.code.ok.0) c.patch-2.ensures

pub emit_loop-returns : goal.emit_loop-returns
emit_loop-returns t c =
    loop_emits c.args.code.now.items (ops.Jump 0) (lay_expr c.args.condition.now) (lay_block c.args.block.now c.args.locals) _ _ _ _ _ _ _ _ _ _
    (c.len-start.ensures ∙ c.args.code.now.ok.0) c.in_ok-emit.ensures c.in_ok-emit-2.ensures c.in_ok-emit_block.ensures (c.len-test.ensures ∙ c.emit_block.new.code.ok.0) c.in_ok-emit_expr.ensures
    (c.len-end.ensures ∙ c.emit_expr.new.code.ok.0) c.in_ok-emit-3.ensures c.in_ok-emit-4.ensures c.patch.ensures

pub emit_stmt-returns-in_ok-emit_expr-in-Var : goal.emit_stmt-returns-in_ok-emit_expr-in-Var
emit_stmt-returns-in_ok-emit_expr-in-Var t c = on_ok c.emit.result c.emit.ensures
    (λ p. stmt_laid c.args.code.now.items _ c.args.statement.now _ c.args.locals (Stmt-F.Var c.in-Var.kind c.in-Var.value) c.in-Var.is (rolls-Var c.in-Var.kind c.in-Var.value)
    (emits_then (lay_expr c.in-Var.value) (just (ops.Set c.args.locals)) c.args.code.now.items _ _ (rw c.get.ensures at c.in_ok-emit_expr-in-Var.ensures) p))

pub emit_stmt-returns-in_ok-emit_expr-in-SetLocal : goal.emit_stmt-returns-in_ok-emit_expr-in-SetLocal
emit_stmt-returns-in_ok-emit_expr-in-SetLocal t c = on_ok c.emit_set.result c.emit_set.ensures
    (λ p. stmt_laid c.args.code.now.items _ c.args.statement.now _ c.args.locals (Stmt-F.SetLocal c.in-SetLocal.local c.in-SetLocal.value) c.in-SetLocal.is (rolls-SetLocal c.in-SetLocal.local c.in-SetLocal.value)
    (emits_then (lay_expr c.in-SetLocal.value) (just (set_local c.in-SetLocal.local c.args.locals)) c.args.code.now.items _ _ (rw c.get-in-SetLocal.ensures at c.in_ok-emit_expr-in-SetLocal.ensures) p))

pub emit_stmt-returns-in_ok-emit_expr-in-SetVariable : goal.emit_stmt-returns-in_ok-emit_expr-in-SetVariable
emit_stmt-returns-in_ok-emit_expr-in-SetVariable t c = on_ok c.emit-in-SetVariable.result c.emit-in-SetVariable.ensures
    (λ p. stmt_laid c.args.code.now.items _ c.args.statement.now _ c.args.locals (Stmt-F.SetVariable c.in-SetVariable.variable c.in-SetVariable.value) c.in-SetVariable.is (rolls-SetVariable c.in-SetVariable.variable c.in-SetVariable.value)
    (emits_then (lay_expr c.in-SetVariable.value) (just (ops.SetVariable c.in-SetVariable.variable)) c.args.code.now.items _ _ (rw c.get-in-SetVariable.ensures at c.in_ok-emit_expr-in-SetVariable.ensures) p))

pub emit_stmt-returns-in_ok-emit_expr-in-If : goal.emit_stmt-returns-in_ok-emit_expr-in-If
emit_stmt-returns-in_ok-emit_expr-in-If t c = on_ok c.emit_choice.result (rw (c.get-in-If-2.ensures, c.get-in-If-3.ensures) at c.emit_choice.ensures)
    (λ p. stmt_laid c.args.code.now.items _ c.args.statement.now _ c.args.locals (Stmt-F.If c.in-If.condition c.in-If.then c.in-If.other) c.in-If.is (rolls-If c.in-If.condition c.in-If.then c.in-If.other)
    (emits_then (lay_expr c.in-If.condition) (lay_choice (lay_block c.in-If.then c.args.locals) (lay_block c.in-If.other c.args.locals)) c.args.code.now.items _ _ (rw c.get-in-If.ensures at c.in_ok-emit_expr-in-If.ensures) p))

pub emit_stmt-returns-in-While : goal.emit_stmt-returns-in-While
emit_stmt-returns-in-While t c = on_ok c.emit_loop.result (rw (c.get-in-While.ensures, c.get-in-While-2.ensures) at c.emit_loop.ensures)
    (λ p. stmt_laid c.args.code.now.items _ c.args.statement.now _ c.args.locals (Stmt-F.While c.in-While.condition c.in-While.block) c.in-While.is (rolls-While c.in-While.condition c.in-While.block) p)

pub emit_stmt-returns-in-Return : goal.emit_stmt-returns-in-Return
emit_stmt-returns-in-Return t c = on_ok c.emit-in-Return.result c.emit-in-Return.ensures
    (λ p. stmt_laid c.args.code.now.items _ c.args.statement.now _ c.args.locals Stmt-F.Return c.in-Return.is rolls-Return p)

pub emit_stmt-returns-in_ok-emit_expr-in-ReturnValue : goal.emit_stmt-returns-in_ok-emit_expr-in-ReturnValue
emit_stmt-returns-in_ok-emit_expr-in-ReturnValue t c = on_ok c.emit-in-ReturnValue.result c.emit-in-ReturnValue.ensures
    (λ p. stmt_laid c.args.code.now.items _ c.args.statement.now _ c.args.locals (Stmt-F.ReturnValue c.in-ReturnValue.value) c.in-ReturnValue.is (rolls-ReturnValue c.in-ReturnValue.value)
    (emits_then (lay_expr c.in-ReturnValue.value) (just ops.ReturnValue) c.args.code.now.items _ _ (rw c.get-in-ReturnValue.ensures at c.in_ok-emit_expr-in-ReturnValue.ensures) p))

pub emit_stmt-returns-in_ok-emit_expr-in-Print : goal.emit_stmt-returns-in_ok-emit_expr-in-Print
emit_stmt-returns-in_ok-emit_expr-in-Print t c = on_ok c.emit-in-Print.result c.emit-in-Print.ensures
    (λ p. stmt_laid c.args.code.now.items _ c.args.statement.now _ c.args.locals (Stmt-F.Print c.in-Print.value) c.in-Print.is (rolls-Print c.in-Print.value)
    (emits_then (lay_expr c.in-Print.value) (just ops.Print) c.args.code.now.items _ _ (rw c.get-in-Print.ensures at c.in_ok-emit_expr-in-Print.ensures) p))

pub emit_stmt-returns-in-Free : goal.emit_stmt-returns-in-Free
emit_stmt-returns-in-Free t c = on_ok c.emit_free.result (rw c.get-in-Free.ensures at c.emit_free.ensures)
    (λ p. stmt_laid c.args.code.now.items _ c.args.statement.now _ c.args.locals (Stmt-F.Free c.in-Free.value) c.in-Free.is (rolls-Free c.in-Free.value) p)

pub emit_stmt-returns-in_ok-emit_expr-in-Call : goal.emit_stmt-returns-in_ok-emit_expr-in-Call
emit_stmt-returns-in_ok-emit_expr-in-Call t c = on_ok c.emit-in-Call.result c.emit-in-Call.ensures
    (λ p. stmt_laid c.args.code.now.items _ c.args.statement.now _ c.args.locals (Stmt-F.Call c.in-Call.call) c.in-Call.is (rolls-Call c.in-Call.call)
    (emits_then (lay_expr c.in-Call.call) (just ops.Drop) c.args.code.now.items _ _ (rw c.get-in-Call.ensures at c.in_ok-emit_expr-in-Call.ensures) p))
