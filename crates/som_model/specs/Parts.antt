-- What the forms of a block give, from left to right: lists of whatever each form of an expression gives, the whole before its parts.
use Rattle.std.specs.Prelude.{List, [], ◌++◌}
use Rattle.som_model.specs.declared.syntax.Expr.{Expr, fold-Expr}
use Rattle.som_model.specs.declared.syntax.Expr.TheOpen.{Expr-F}
use Rattle.som_model.specs.declared.syntax.Stmt.TheOpen.{Stmt-F, Block-F}
use Rattle.som_model.specs.declared.syntax.Block.{Block, fold-Block}
use Rattle.som_model.specs.Lists.{joined}

-- the parts of an expression, joined
abbrev pub parts : {A : Type 0} → Expr-F (List A) → List A
parts (Expr-F.Unary op e) = e
parts (Expr-F.Binary op a b) = a ++ b
parts (Expr-F.Cast k e) = e
parts (Expr-F.Isa k e) = e
parts (Expr-F.Proxy k e) = e
parts (Expr-F.OffsetCall method e args) = e ++ joined args
parts (Expr-F.Lookup wanted name e args) = e ++ joined args
parts (Expr-F.Dispatch wanted name e args) = e ++ joined args
parts (Expr-F.ParentCall n method args) = joined args
parts (Expr-F.ParentsCall method args) = joined args
parts (Expr-F.Host code a b) = a ++ b
parts _ = []

module _ {A : Type 0} (of_form : Expr-F (List A) → List A) where
  -- what the forms of an expression give
  abbrev pub given_by : Expr → List A
  given_by = fold-Expr (List A) (λ x. of_form x ++ parts x)

  abbrev given_stmt : Stmt-F (List A) (List A) → List A
  given_stmt (Stmt-F.Var kind e) = given_by e
  given_stmt (Stmt-F.SetLocal n e) = given_by e
  given_stmt (Stmt-F.SetVariable n e) = given_by e
  given_stmt (Stmt-F.If c x y) = given_by c ++ x ++ y
  given_stmt (Stmt-F.While c b) = given_by c ++ b
  given_stmt Stmt-F.Return = []
  given_stmt (Stmt-F.ReturnValue e) = given_by e
  given_stmt (Stmt-F.Print e) = given_by e
  given_stmt (Stmt-F.Free e) = given_by e
  given_stmt (Stmt-F.Call e) = given_by e

  abbrev given_block : Block-F (List A) (List A) → List A
  given_block b = joined b.statements

  -- what the forms of the expressions of a block give
  abbrev pub given_in : Block → List A
  given_in = fold-Block (List A) (List A) given_stmt given_block
