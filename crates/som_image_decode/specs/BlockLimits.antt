-- How much of each thing the blocks of an image have room for, whatever their names and types. Of a block that was read it holds.
use Rattle.std.specs.Prelude.{ℕ, zero, suc, ◌<◌, ◌≤◌, ◌^◌, FitsSigned, List, length, All}
use Rattle.std.specs.Int.{w32}
use Rattle.som_model.specs.declared.limits.TheConstants.{MAX_TEXT, MAX_PARAMETERS}
use Rattle.som_model.specs.declared.syntax.Expr.{Expr, out-Expr}
use Rattle.som_model.specs.declared.syntax.Expr.TheOpen.{Expr-F}
use Rattle.som_model.specs.declared.syntax.Stmt.{Stmt, out-Stmt}
use Rattle.som_model.specs.declared.syntax.Stmt.TheOpen.{Stmt-F}
use Rattle.som_model.specs.declared.syntax.Block.{Block}
use Rattle.som_image_fields.specs.Fitting.{levels_left}

abbrev pub TextWithin : List ℕ → Type 0
TextWithin t = length t ≤ MAX_TEXT

-- not too many arguments
abbrev pub ArgsWithin : (Expr → Type 0) → List Expr → Type 0
ArgsWithin Inner es = (length es ≤ MAX_PARAMETERS) × All Inner es

-- the fields of an expression, by which expressions can stand in it: a long has 4 bytes, the place of a local 2, that of a variable or a parent 1
abbrev pub ExprPartsWithin : (Expr → Type 0) → Expr-F Expr → Type 0
ExprPartsWithin Inner (Expr-F.Long z) = FitsSigned w32 z
ExprPartsWithin Inner (Expr-F.Str t) = TextWithin t
ExprPartsWithin Inner (Expr-F.Boolean b) = Unit {0}
ExprPartsWithin Inner Expr-F.Nil = Unit {0}
ExprPartsWithin Inner (Expr-F.Local n) = n < 2 ^ 16
ExprPartsWithin Inner Expr-F.Me = Unit {0}
ExprPartsWithin Inner (Expr-F.Variable n) = n < 2 ^ 8
ExprPartsWithin Inner (Expr-F.Unary op e) = Inner e
ExprPartsWithin Inner (Expr-F.Binary op a b) = Inner a × Inner b
ExprPartsWithin Inner (Expr-F.New k) = Unit {0}
ExprPartsWithin Inner (Expr-F.Class k) = Unit {0}
ExprPartsWithin Inner Expr-F.Manager = Unit {0}
ExprPartsWithin Inner (Expr-F.Cast k e) = Inner e
ExprPartsWithin Inner (Expr-F.Isa k e) = Inner e
ExprPartsWithin Inner (Expr-F.Proxy k e) = Inner e
ExprPartsWithin Inner (Expr-F.OffsetCall r e es) = Inner e × ArgsWithin Inner es
ExprPartsWithin Inner (Expr-F.Lookup t name e es) = TextWithin name × Inner e × ArgsWithin Inner es
ExprPartsWithin Inner (Expr-F.Dispatch t name e es) = TextWithin name × Inner e × ArgsWithin Inner es
ExprPartsWithin Inner (Expr-F.ParentCall n r es) = (n < 2 ^ 8) × ArgsWithin Inner es
ExprPartsWithin Inner (Expr-F.ParentsCall r es) = ArgsWithin Inner es
ExprPartsWithin Inner (Expr-F.Host code a b) = Inner a × Inner b

-- an expression, where so many levels are left
unfoldable pub ExprWithin : ℕ → Expr → Type 0
ExprWithin zero e = ⊥
ExprWithin (suc left) e = ExprPartsWithin (ExprWithin left) (out-Expr e)

-- the fields of a statement, by which expressions and blocks can stand in it
abbrev pub StmtPartsWithin : (Expr → Type 0) → (Block → Type 0) → Stmt-F Stmt Block → Type 0
StmtPartsWithin Inner Within (Stmt-F.Var t e) = Inner e
StmtPartsWithin Inner Within (Stmt-F.SetLocal n e) = (n < 2 ^ 16) × Inner e
StmtPartsWithin Inner Within (Stmt-F.SetVariable n e) = (n < 2 ^ 8) × Inner e
StmtPartsWithin Inner Within (Stmt-F.If e a b) = Inner e × Within a × Within b
StmtPartsWithin Inner Within (Stmt-F.While e b) = Inner e × Within b
StmtPartsWithin Inner Within Stmt-F.Return = Unit {0}
StmtPartsWithin Inner Within (Stmt-F.ReturnValue e) = Inner e
StmtPartsWithin Inner Within (Stmt-F.Print e) = Inner e
StmtPartsWithin Inner Within (Stmt-F.Free e) = Inner e
StmtPartsWithin Inner Within (Stmt-F.Call e) = Inner e

-- as many statements as their number can say
abbrev pub StatementsWithin : (Stmt → Type 0) → Block → Type 0
StatementsWithin Within b = (length b.statements < 2 ^ 32) × All Within b.statements

-- a statement, where so many levels are left
unfoldable pub StmtWithin : ℕ → Stmt → Type 0
StmtWithin zero s = ⊥
StmtWithin (suc left) s = StmtPartsWithin (ExprWithin left) (StatementsWithin (StmtWithin left)) (out-Stmt s)

-- a body or a main: its statements have level 1
abbrev pub BlockWithin : Block → Type 0
BlockWithin b = StatementsWithin (StmtWithin (levels_left 1)) b
