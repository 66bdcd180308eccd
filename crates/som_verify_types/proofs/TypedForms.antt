-- What a statement comes to, by its form.
use Rattle.std.proofs.Common.{◌≡◌, ℕ, Ok, sym, ap, ◌∙◌}
use Rattle.som_model.specs.declared.key.ValueType.{ValueType}
use Rattle.som_model.specs.declared.syntax.Expr.{Expr}
use Rattle.som_model.specs.declared.syntax.Stmt.{Stmt, fold-roll-Stmt, roll-Stmt}
use Rattle.som_model.specs.declared.syntax.Stmt.TheVariants as stmts
use Rattle.som_model.specs.declared.syntax.Stmt.TheVariants.{rolls-Var, rolls-SetLocal, rolls-SetVariable, rolls-If, rolls-While, rolls-Return, rolls-ReturnValue, rolls-Print, rolls-Free, rolls-Call}
use Rattle.som_model.specs.declared.syntax.Stmt.TheOpen.{Stmt-F}
use Rattle.som_model.specs.declared.syntax.Block.{Block}
use Rattle.som_model.specs.Steps.{◌>>=◌}
use Rattle.som_model.specs.Typing.{ClassFacts, CodePlace, value, expr_type, needs, is_boolean, is_class, has_text}
use Rattle.som_model.specs.TypedBlocks.{Scope, Scoped, stmt_step, block_step, stmt_scope, block_scope, var_scope, local_set, variable_set, plain_return, value_return, call_statement}

module _ (w : ClassFacts) (at : CodePlace) (scope : Scope) where
  -- the form of a statement decides
  by_form : (s : Stmt) (form : Stmt-F Stmt Block) (ruled : Scoped) → roll-Stmt form ≡ s → stmt_scope w at (roll-Stmt form) ≡ ruled → stmt_scope w at s scope ≡ ruled scope
  by_form s form ruled rolls folds = ap (λ (f : Scoped). f scope) (ap (stmt_scope w at) (sym rolls) ∙ folds)

  pub var_typed : (kind : ValueType) (e : Expr) → stmt_scope w at (stmts.Var kind e) scope ≡ (value (expr_type w at scope e) >>= var_scope w scope kind)
  var_typed kind e = by_form _ (Stmt-F.Var kind e) _ (rolls-Var kind e) (fold-roll-Stmt Scoped Scoped (stmt_step w at) block_step (Stmt-F.Var kind e))

  pub set_local_typed : (n : ℕ) (e : Expr) → stmt_scope w at (stmts.SetLocal n e) scope ≡ (value (expr_type w at scope e) >>= local_set w scope n)
  set_local_typed n e = by_form _ (Stmt-F.SetLocal n e) _ (rolls-SetLocal n e) (fold-roll-Stmt Scoped Scoped (stmt_step w at) block_step (Stmt-F.SetLocal n e))

  pub set_variable_typed : (n : ℕ) (e : Expr) → stmt_scope w at (stmts.SetVariable n e) scope ≡ (value (expr_type w at scope e) >>= variable_set w at scope n)
  set_variable_typed n e = by_form _ (Stmt-F.SetVariable n e) _ (rolls-SetVariable n e) (fold-roll-Stmt Scoped Scoped (stmt_step w at) block_step (Stmt-F.SetVariable n e))

  pub if_typed : (e : Expr) (a b : Block) → stmt_scope w at (stmts.If e a b) scope
      ≡ (value (expr_type w at scope e) >>= λ t. block_scope w at a scope >>= λ _. block_scope w at b scope >>= λ _. needs 17 (is_boolean t) (Ok scope))
  if_typed e a b = by_form _ (Stmt-F.If e a b) _ (rolls-If e a b) (fold-roll-Stmt Scoped Scoped (stmt_step w at) block_step (Stmt-F.If e a b))

  pub while_typed : (e : Expr) (b : Block) → stmt_scope w at (stmts.While e b) scope
      ≡ (value (expr_type w at scope e) >>= λ t. block_scope w at b scope >>= λ _. needs 17 (is_boolean t) (Ok scope))
  while_typed e b = by_form _ (Stmt-F.While e b) _ (rolls-While e b) (fold-roll-Stmt Scoped Scoped (stmt_step w at) block_step (Stmt-F.While e b))

  pub return_typed : stmt_scope w at stmts.Return scope ≡ plain_return at scope
  return_typed = by_form _ Stmt-F.Return _ rolls-Return (fold-roll-Stmt Scoped Scoped (stmt_step w at) block_step Stmt-F.Return)

  pub value_return_typed : (e : Expr) → stmt_scope w at (stmts.ReturnValue e) scope ≡ (value (expr_type w at scope e) >>= value_return w at scope)
  value_return_typed e = by_form _ (Stmt-F.ReturnValue e) _ (rolls-ReturnValue e) (fold-roll-Stmt Scoped Scoped (stmt_step w at) block_step (Stmt-F.ReturnValue e))

  pub print_typed : (e : Expr) → stmt_scope w at (stmts.Print e) scope ≡ (value (expr_type w at scope e) >>= λ t. needs 17 (has_text t) (Ok scope))
  print_typed e = by_form _ (Stmt-F.Print e) _ (rolls-Print e) (fold-roll-Stmt Scoped Scoped (stmt_step w at) block_step (Stmt-F.Print e))

  pub free_typed : (e : Expr) → stmt_scope w at (stmts.Free e) scope ≡ (value (expr_type w at scope e) >>= λ t. needs 17 (is_class t) (Ok scope))
  free_typed e = by_form _ (Stmt-F.Free e) _ (rolls-Free e) (fold-roll-Stmt Scoped Scoped (stmt_step w at) block_step (Stmt-F.Free e))

  pub call_typed : (e : Expr) → stmt_scope w at (stmts.Call e) scope ≡ call_statement w at scope e
  call_typed e = by_form _ (Stmt-F.Call e) _ (rolls-Call e) (fold-roll-Stmt Scoped Scoped (stmt_step w at) block_step (Stmt-F.Call e))
