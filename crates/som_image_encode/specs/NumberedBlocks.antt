-- The expressions, statements and blocks of an image, with numbers for the classes that are named in them, and slots for the methods.
use Rattle.som_model.specs.declared.syntax.Expr.{Expr, fold-Expr}
use Rattle.som_model.specs.declared.syntax.Expr.TheOpen.{Expr-F}
use Rattle.som_model.specs.declared.syntax.Stmt.{Stmt, fold-Stmt}
use Rattle.som_model.specs.declared.syntax.Stmt.TheOpen.{Stmt-F, Block-F}
use Rattle.som_model.specs.declared.syntax.Block.{Block, fold-Block}
use Rattle.som_image_fields.specs.declared.syntax.WireExpr.{WireExpr}
use Rattle.som_image_fields.specs.declared.syntax.WireExpr.TheVariants as exprs
use Rattle.som_image_fields.specs.declared.syntax.WireStmt.{WireStmt}
use Rattle.som_image_fields.specs.declared.syntax.WireStmt.TheVariants as stmts
use Rattle.som_image_fields.specs.declared.syntax.WireBlock.{WireBlock}
use Rattle.som_image_decode.specs.declared.directory.Directory.{Directory}
use Rattle.som_image_encode.specs.Numbering.{number_of, method_numbered, kind_numbered}

-- an expression, by what its parts are numbered to
abbrev pub expr_step : Directory → Expr-F WireExpr → WireExpr
expr_step d (Expr-F.Long z) = exprs.Long z
expr_step d (Expr-F.Str t) = exprs.Str t
expr_step d (Expr-F.Boolean b) = exprs.Boolean b
expr_step d Expr-F.Nil = exprs.Nil
expr_step d (Expr-F.Local n) = exprs.Local n
expr_step d Expr-F.Me = exprs.Me
expr_step d (Expr-F.Variable n) = exprs.Variable n
expr_step d (Expr-F.Unary op e) = exprs.Unary op e
expr_step d (Expr-F.Binary op a b) = exprs.Binary op a b
expr_step d (Expr-F.New k) = exprs.New (number_of d.keys k)
expr_step d (Expr-F.Class k) = exprs.Class (number_of d.keys k)
expr_step d Expr-F.Manager = exprs.Manager
expr_step d (Expr-F.Cast k e) = exprs.Cast (number_of d.keys k) e
expr_step d (Expr-F.Isa k e) = exprs.Isa (number_of d.keys k) e
expr_step d (Expr-F.Proxy k e) = exprs.Proxy (number_of d.keys k) e
expr_step d (Expr-F.OffsetCall r e es) = exprs.OffsetCall (method_numbered d r) e es
expr_step d (Expr-F.Lookup t name e es) = exprs.Lookup (kind_numbered d.keys t) name e es
expr_step d (Expr-F.Dispatch t name e es) = exprs.Dispatch (kind_numbered d.keys t) name e es
expr_step d (Expr-F.ParentCall n r es) = exprs.ParentCall n (method_numbered d r) es
expr_step d (Expr-F.ParentsCall r es) = exprs.ParentsCall (method_numbered d r) es
expr_step d (Expr-F.Host code a b) = exprs.Host code a b

abbrev pub expr_numbered : Directory → Expr → WireExpr
expr_numbered d = fold-Expr WireExpr (expr_step d)

-- a statement, by what its blocks are numbered to
abbrev pub stmt_step : Directory → Stmt-F WireStmt WireBlock → WireStmt
stmt_step d (Stmt-F.Var t e) = stmts.Var (kind_numbered d.keys t) (expr_numbered d e)
stmt_step d (Stmt-F.SetLocal n e) = stmts.SetLocal n (expr_numbered d e)
stmt_step d (Stmt-F.SetVariable n e) = stmts.SetVariable n (expr_numbered d e)
stmt_step d (Stmt-F.If e a b) = stmts.If (expr_numbered d e) a b
stmt_step d (Stmt-F.While e b) = stmts.While (expr_numbered d e) b
stmt_step d Stmt-F.Return = stmts.Return
stmt_step d (Stmt-F.ReturnValue e) = stmts.ReturnValue (expr_numbered d e)
stmt_step d (Stmt-F.Print e) = stmts.Print (expr_numbered d e)
stmt_step d (Stmt-F.Free e) = stmts.Free (expr_numbered d e)
stmt_step d (Stmt-F.Call e) = stmts.Call (expr_numbered d e)

abbrev pub block_step : Block-F WireStmt WireBlock → WireBlock
block_step b = record { statements = b.statements }

abbrev pub stmt_numbered : Directory → Stmt → WireStmt
stmt_numbered d = fold-Stmt WireStmt WireBlock (stmt_step d) block_step

abbrev pub block_numbered : Directory → Block → WireBlock
block_numbered d = fold-Block WireStmt WireBlock (stmt_step d) block_step
