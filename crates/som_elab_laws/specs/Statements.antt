-- What the texts of statements and blocks say, form by form.
use Rattle.std.specs.Prelude.{ℕ, List, [], ◌∷◌, ◌++◌, Some, None}
use Rattle.som_model.specs.declared.syntax.Block.{Block}
use Rattle.som_model.specs.declared.syntax.Expr.{Expr}
use Rattle.som_model.specs.declared.syntax.Stmt.{Stmt}
use Rattle.som_model.specs.declared.syntax.Stmt.TheVariants as stmts
use Rattle.som_model.specs.Typing.{CodePlace}
use Rattle.som_ast.specs.declared.words.TypeName.{TypeName}
use Rattle.som_ast.specs.declared.words.Word.{Word}
use Rattle.som_ast.specs.declared.expression.ExprText.{ExprText}
use Rattle.som_ast.specs.declared.body.BlockText.{BlockText}
use Rattle.som_ast.specs.declared.body.StmtText.{StmtText}
use Rattle.som_ast.specs.declared.body.StmtText.TheVariants as texts
use Rattle.som_sema_scope.specs.ClassNames.{type_of}
use Rattle.som_elab_body.specs.Expressions.{Among}
use Rattle.som_elab_body.specs.Locals.{Named, Names}
use Rattle.som_elab_laws.specs.Expressions.{ExprSays}
use Rattle.som_elab_laws.specs.Named.{IsLocal, IsVariable}

module _ (a : Among) (at : CodePlace) where
  -- a declared local
  abbrev pub local_named : Word → TypeName → Named
  local_named name kind = record { name = name.text; kind = type_of a.module_of kind }

  mutual
    -- `StmtSays before s x after`: among the names before it the text s says x, and the names after it are in scope for what follows
    pub data StmtSays : Names → StmtText → Stmt → Names → Type 0 where
      a_declaration : {scope : Names} {name : Word} {kind : TypeName} {e : ExprText} {x : Expr} → ExprSays a at scope e x
          → StmtSays scope (texts.Var name kind e) (stmts.Var (type_of a.module_of kind) x) (scope ++ local_named name kind ∷ [])
      an_assignment : {scope : Names} {name : Word} {e : ExprText} {x : Expr} {n : ℕ} → ExprSays a at scope e x → IsLocal scope name.text n
          → StmtSays scope (texts.Set name e) (stmts.SetLocal n x) scope
      a_variable_assignment : {scope : Names} {name : Word} {e : ExprText} {x : Expr} {n : ℕ} → ExprSays a at scope e x → IsVariable at name.text n
          → StmtSays scope (texts.SetVariable name e) (stmts.SetVariable n x) scope
      a_choice : {scope : Names} {e : ExprText} {b c : BlockText} {x : Expr} {y z : Block} → ExprSays a at scope e x → BlockSays scope b y → BlockSays scope c z
          → StmtSays scope (texts.If e b c) (stmts.If x y z) scope
      a_loop : {scope : Names} {e : ExprText} {b : BlockText} {x : Expr} {y : Block} → ExprSays a at scope e x → BlockSays scope b y
          → StmtSays scope (texts.While e b) (stmts.While x y) scope
      a_return : {scope : Names} → StmtSays scope (texts.Return None) stmts.Return scope
      a_return_with_value : {scope : Names} {e : ExprText} {x : Expr} → ExprSays a at scope e x → StmtSays scope (texts.Return (Some e)) (stmts.ReturnValue x) scope
      a_print : {scope : Names} {e : ExprText} {x : Expr} → ExprSays a at scope e x → StmtSays scope (texts.Print e) (stmts.Print x) scope
      a_free : {scope : Names} {e : ExprText} {x : Expr} → ExprSays a at scope e x → StmtSays scope (texts.Free e) (stmts.Free x) scope
      a_call : {scope : Names} {e : ExprText} {x : Expr} → ExprSays a at scope e x → StmtSays scope (texts.Call e) (stmts.Call x) scope

    -- statements one after the other, each among the names that the one before leaves
    pub data StmtsSay : Names → List StmtText → List Stmt → Type 0 where
      no_statement : {scope : Names} → StmtsSay scope [] []
      one_statement : {before after : Names} {s : StmtText} {ss : List StmtText} {x : Stmt} {xs : List Stmt} → StmtSays before s x after → StmtsSay after ss xs
          → StmtsSay before (s ∷ ss) (x ∷ xs)

    -- what a block declares is in scope to its own end alone
    pub data BlockSays : Names → BlockText → Block → Type 0 where
      a_block : {scope : Names} {ss : List StmtText} {xs : List Stmt} → StmtsSay scope ss xs → BlockSays scope (record { statements = ss }) (record { statements = xs })
