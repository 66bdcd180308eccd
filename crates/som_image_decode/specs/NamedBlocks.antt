-- The expressions, statements and blocks that those of an image stand for.
use Rattle.std.specs.Prelude.{◌≡◌, ℕ, List}
use Rattle.som_model.specs.declared.syntax.Expr.{Expr}
use Rattle.som_model.specs.declared.syntax.Expr.TheVariants as exprs
use Rattle.som_model.specs.declared.syntax.Stmt.{Stmt}
use Rattle.som_model.specs.declared.syntax.Stmt.TheVariants as stmts
use Rattle.som_model.specs.declared.syntax.Block.{Block}
use Rattle.som_image_fields.specs.Spelling.{FitsMethod}
use Rattle.som_image_fields.specs.declared.syntax.WireExpr.{WireExpr, fold-WireExpr}
use Rattle.som_image_fields.specs.declared.syntax.WireExpr.TheOpen.{WireExpr-F}
use Rattle.som_image_fields.specs.declared.syntax.WireStmt.{WireStmt, fold-WireStmt}
use Rattle.som_image_fields.specs.declared.syntax.WireStmt.TheOpen.{WireStmt-F, WireBlock-F}
use Rattle.som_image_fields.specs.declared.syntax.WireBlock.{WireBlock, fold-WireBlock}
use Rattle.som_image_fields.specs.Fitting.{FitsBlock, levels_left}
use Rattle.som_image_fields.specs.SyntaxSpelling as spelling
use Rattle.som_image_decode.specs.declared.directory.Directory.{Directory}
use Rattle.som_image_decode.specs.Naming.{key_at, method_named, kind_named, ranges_in}

-- ---- expressions

-- an expression, by what its parts stand for
abbrev pub expr_named_step : Directory → WireExpr-F Expr → Expr
expr_named_step d (WireExpr-F.Long z) = exprs.Long z
expr_named_step d (WireExpr-F.Str t) = exprs.Str t
expr_named_step d (WireExpr-F.Boolean b) = exprs.Boolean b
expr_named_step d WireExpr-F.Nil = exprs.Nil
expr_named_step d (WireExpr-F.Local n) = exprs.Local n
expr_named_step d WireExpr-F.Me = exprs.Me
expr_named_step d (WireExpr-F.Variable n) = exprs.Variable n
expr_named_step d (WireExpr-F.Unary op e) = exprs.Unary op e
expr_named_step d (WireExpr-F.Binary op a b) = exprs.Binary op a b
expr_named_step d (WireExpr-F.New c) = exprs.New (key_at d.keys c)
expr_named_step d (WireExpr-F.Class c) = exprs.Class (key_at d.keys c)
expr_named_step d WireExpr-F.Manager = exprs.Manager
expr_named_step d (WireExpr-F.Cast c e) = exprs.Cast (key_at d.keys c) e
expr_named_step d (WireExpr-F.Isa c e) = exprs.Isa (key_at d.keys c) e
expr_named_step d (WireExpr-F.Proxy c e) = exprs.Proxy (key_at d.keys c) e
expr_named_step d (WireExpr-F.OffsetCall m e es) = exprs.OffsetCall (method_named d m) e es
expr_named_step d (WireExpr-F.Lookup t name e es) = exprs.Lookup (kind_named d.keys t) name e es
expr_named_step d (WireExpr-F.Dispatch t name e es) = exprs.Dispatch (kind_named d.keys t) name e es
expr_named_step d (WireExpr-F.ParentCall n m es) = exprs.ParentCall n (method_named d m) es
expr_named_step d (WireExpr-F.ParentsCall m es) = exprs.ParentsCall (method_named d m) es
expr_named_step d (WireExpr-F.Host code a b) = exprs.Host code a b

abbrev pub expr_named : Directory → WireExpr → Expr
expr_named d = fold-WireExpr Expr (expr_named_step d)

-- ---- statements and blocks

-- a statement, by what its blocks stand for
abbrev pub stmt_named_step : Directory → WireStmt-F Stmt Block → Stmt
stmt_named_step d (WireStmt-F.Var t e) = stmts.Var (kind_named d.keys t) (expr_named d e)
stmt_named_step d (WireStmt-F.SetLocal n e) = stmts.SetLocal n (expr_named d e)
stmt_named_step d (WireStmt-F.SetVariable n e) = stmts.SetVariable n (expr_named d e)
stmt_named_step d (WireStmt-F.If e a b) = stmts.If (expr_named d e) a b
stmt_named_step d (WireStmt-F.While e b) = stmts.While (expr_named d e) b
stmt_named_step d WireStmt-F.Return = stmts.Return
stmt_named_step d (WireStmt-F.ReturnValue e) = stmts.ReturnValue (expr_named d e)
stmt_named_step d (WireStmt-F.Print e) = stmts.Print (expr_named d e)
stmt_named_step d (WireStmt-F.Free e) = stmts.Free (expr_named d e)
stmt_named_step d (WireStmt-F.Call e) = stmts.Call (expr_named d e)

abbrev pub block_named_step : WireBlock-F Stmt Block → Block
block_named_step b = record { statements = b.statements }

abbrev pub stmt_named : Directory → WireStmt → Stmt
stmt_named d = fold-WireStmt Stmt Block (stmt_named_step d) block_named_step

abbrev pub block_named : Directory → WireBlock → Block
block_named d = fold-WireBlock Stmt Block (stmt_named_step d) block_named_step

-- ---- what a block is named from

-- a block of an image that fits a directory, is spelled so, and stands for this block
pub record BlockFrom (d : Directory) (b : Block) (bytes : List ℕ) : Type 0 where
  pub block : WireBlock
  pub spelled : spelling.block block ≡ bytes
  pub fits : FitsBlock (levels_left 1) (ranges_in d).classes (FitsMethod (ranges_in d)) block
  pub named : block_named d block ≡ b
