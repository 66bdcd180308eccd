-- What the text of a statement comes to, by its form.
use Rattle.std.proofs.Common.{◌≡◌, map, Option, Ok, sym, ap, ◌∙◌}
use Rattle.som_model.specs.Steps.{◌>>=◌}
use Rattle.som_model.specs.Typing.{CodePlace}
use Rattle.som_ast.specs.declared.words.TypeName.{TypeName}
use Rattle.som_ast.specs.declared.words.Word.{Word}
use Rattle.som_ast.specs.declared.expression.ExprText.{ExprText}
use Rattle.som_ast.specs.declared.body.StmtText.{StmtText, fold-roll-StmtText, roll-StmtText}
use Rattle.som_ast.specs.declared.body.StmtText.TheVariants as texts
use Rattle.som_ast.specs.declared.body.StmtText.TheVariants.{rolls-Var, rolls-Set, rolls-SetVariable, rolls-If, rolls-While, rolls-Return, rolls-Print, rolls-Free, rolls-Call}
use Rattle.som_ast.specs.declared.body.StmtText.TheOpen.{StmtText-F}
use Rattle.som_ast.specs.declared.body.BlockText.{BlockText, fold-roll-BlockText}
use Rattle.som_sema_scope.specs.ClassNames.{type_of}
use Rattle.som_elab_body.specs.Locals.{Names}
use Rattle.som_elab_body.specs.Expressions.{Among, elaborated, elaborated_value}
use Rattle.som_elab_body.specs.Statements.{BlockElab, StmtElab, block_step, call_statement, declared, elaborated_block, elaborated_stmt, freed, in_turn, printed, returned, ruled, set_local, set_variable, stmt_step}
use Rattle.som_elab_body.specs.Stated.{by_value, declared_by, if_by, while_by}

module _ (a : Among) (at : CodePlace) where
  -- a block, by what its statements come to
  pub block_is : (b : BlockText) (scope : Names) → elaborated_block a at b scope ≡ (in_turn (map (elaborated_stmt a at) b.statements) scope >>= λ ss. Ok (record { statements = ss }))
  block_is b scope = ap (λ (f : BlockElab). f scope) (fold-roll-BlockText StmtElab BlockElab (stmt_step a at) block_step (record { statements = b.statements }))

module _ (a : Among) (at : CodePlace) (scope : Names) where
  -- the form of a statement decides
  by_form : (s : StmtText) (form : StmtText-F StmtText BlockText) (comes : StmtElab) → roll-StmtText form ≡ s → elaborated_stmt a at (roll-StmtText form) ≡ comes → elaborated_stmt a at s scope ≡ comes scope
  by_form s form comes rolls folds = ap (λ (f : StmtElab). f scope) (ap (elaborated_stmt a at) (sym rolls) ∙ folds)

  pub var_is : (name : Word) (kind : TypeName) (e : ExprText) → elaborated_stmt a at (texts.Var name kind e) scope ≡ declared_by (elaborated_value a at scope e) (declared a scope name.text (type_of a.module_of kind))
  var_is name kind e = by_form _ (StmtText-F.Var name kind e) _ (rolls-Var name kind e) (fold-roll-StmtText StmtElab BlockElab (stmt_step a at) block_step (StmtText-F.Var name kind e))

  pub set_is : (name : Word) (e : ExprText) → elaborated_stmt a at (texts.Set name e) scope ≡ by_value (elaborated_value a at scope e) (set_local a scope name.text)
  set_is name e = by_form _ (StmtText-F.Set name e) _ (rolls-Set name e) (fold-roll-StmtText StmtElab BlockElab (stmt_step a at) block_step (StmtText-F.Set name e))

  pub set_variable_is : (name : Word) (e : ExprText) → elaborated_stmt a at (texts.SetVariable name e) scope ≡ by_value (elaborated_value a at scope e) (set_variable a at scope name.text)
  set_variable_is name e = by_form _ (StmtText-F.SetVariable name e) _ (rolls-SetVariable name e) (fold-roll-StmtText StmtElab BlockElab (stmt_step a at) block_step (StmtText-F.SetVariable name e))

  pub if_is : (e : ExprText) (b c : BlockText) → elaborated_stmt a at (texts.If e b c) scope ≡ if_by (elaborated_value a at scope e) (elaborated_block a at b scope) (elaborated_block a at c scope) scope
  if_is e b c = by_form _ (StmtText-F.If e b c) _ (rolls-If e b c) (fold-roll-StmtText StmtElab BlockElab (stmt_step a at) block_step (StmtText-F.If e b c))

  pub while_is : (e : ExprText) (b : BlockText) → elaborated_stmt a at (texts.While e b) scope ≡ while_by (elaborated_value a at scope e) (elaborated_block a at b scope) scope
  while_is e b = by_form _ (StmtText-F.While e b) _ (rolls-While e b) (fold-roll-StmtText StmtElab BlockElab (stmt_step a at) block_step (StmtText-F.While e b))

  pub return_is : (value : Option ExprText) → elaborated_stmt a at (texts.Return value) scope ≡ ruled (returned a at scope value)
  return_is value = by_form _ (StmtText-F.Return value) _ (rolls-Return value) (fold-roll-StmtText StmtElab BlockElab (stmt_step a at) block_step (StmtText-F.Return value))

  pub print_is : (e : ExprText) → elaborated_stmt a at (texts.Print e) scope ≡ by_value (elaborated_value a at scope e) (printed scope)
  print_is e = by_form _ (StmtText-F.Print e) _ (rolls-Print e) (fold-roll-StmtText StmtElab BlockElab (stmt_step a at) block_step (StmtText-F.Print e))

  pub free_is : (e : ExprText) → elaborated_stmt a at (texts.Free e) scope ≡ by_value (elaborated_value a at scope e) (freed scope)
  free_is e = by_form _ (StmtText-F.Free e) _ (rolls-Free e) (fold-roll-StmtText StmtElab BlockElab (stmt_step a at) block_step (StmtText-F.Free e))

  pub call_is : (e : ExprText) → elaborated_stmt a at (texts.Call e) scope ≡ by_value (elaborated a at scope e) (call_statement scope)
  call_is e = by_form _ (StmtText-F.Call e) _ (rolls-Call e) (fold-roll-StmtText StmtElab BlockElab (stmt_step a at) block_step (StmtText-F.Call e))
