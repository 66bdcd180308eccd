-- What numbering asks of blocks: an image has room for them, each class, method and type is one of the directory, and operators and calls are what an image can spell.
use Rattle.std.specs.Prelude.{ℕ, zero, suc, ◌<◌, ◌^◌, IsTrue, FitsSigned}
use Rattle.std.specs.Int.{w32}
use Rattle.som_model.specs.declared.syntax.Expr.{Expr, out-Expr}
use Rattle.som_model.specs.declared.syntax.Expr.TheOpen.{Expr-F}
use Rattle.som_model.specs.declared.syntax.Stmt.{Stmt, out-Stmt}
use Rattle.som_model.specs.declared.syntax.Stmt.TheOpen.{Stmt-F}
use Rattle.som_model.specs.declared.syntax.Block.{Block}
use Rattle.som_model.specs.Lists.{Mem}
use Rattle.som_model.specs.Blocks.{is_call}
use Rattle.som_image_fields.specs.Fitting.{levels_left}
use Rattle.som_image_decode.specs.declared.directory.Directory.{Directory}
use Rattle.som_image_encode.specs.Numbering.{MethodKnown, IsKnown, IsValue}
use Rattle.som_image_decode.specs.BlockLimits.{TextWithin, ArgsWithin, StatementsWithin}

-- the fields of an expression, by which expressions can stand in it
abbrev pub ExprPartsReady : Directory → (Expr → Type 0) → Expr-F Expr → Type 0
ExprPartsReady d Inner (Expr-F.Long z) = FitsSigned w32 z
ExprPartsReady d Inner (Expr-F.Str t) = TextWithin t
ExprPartsReady d Inner (Expr-F.Boolean b) = Unit {0}
ExprPartsReady d Inner Expr-F.Nil = Unit {0}
ExprPartsReady d Inner (Expr-F.Local n) = n < 2 ^ 16
ExprPartsReady d Inner Expr-F.Me = Unit {0}
ExprPartsReady d Inner (Expr-F.Variable n) = n < 2 ^ 8
ExprPartsReady d Inner (Expr-F.Unary op e) = (op < 4) × Inner e
ExprPartsReady d Inner (Expr-F.Binary op a b) = (op < 14) × Inner a × Inner b
ExprPartsReady d Inner (Expr-F.New k) = Mem k d.keys
ExprPartsReady d Inner (Expr-F.Class k) = Mem k d.keys
ExprPartsReady d Inner Expr-F.Manager = Unit {0}
ExprPartsReady d Inner (Expr-F.Cast k e) = Mem k d.keys × Inner e
ExprPartsReady d Inner (Expr-F.Isa k e) = Mem k d.keys × Inner e
ExprPartsReady d Inner (Expr-F.Proxy k e) = Mem k d.keys × Inner e
ExprPartsReady d Inner (Expr-F.OffsetCall r e es) = MethodKnown d r × Inner e × ArgsWithin Inner es
ExprPartsReady d Inner (Expr-F.Lookup t name e es) = IsKnown d.keys t × TextWithin name × Inner e × ArgsWithin Inner es
ExprPartsReady d Inner (Expr-F.Dispatch t name e es) = IsKnown d.keys t × TextWithin name × Inner e × ArgsWithin Inner es
ExprPartsReady d Inner (Expr-F.ParentCall n r es) = (n < 2 ^ 8) × MethodKnown d r × ArgsWithin Inner es
ExprPartsReady d Inner (Expr-F.ParentsCall r es) = MethodKnown d r × ArgsWithin Inner es
ExprPartsReady d Inner (Expr-F.Host code a b) = Inner a × Inner b

-- an expression, where so many levels are left
unfoldable pub ExprReady : ℕ → Directory → Expr → Type 0
ExprReady zero d e = ⊥
ExprReady (suc left) d e = ExprPartsReady d (ExprReady left d) (out-Expr e)

-- the fields of a statement, by which expressions and blocks can stand in it: a variable has a value, and what is called is a call
abbrev pub StmtPartsReady : Directory → (Expr → Type 0) → (Block → Type 0) → Stmt-F Stmt Block → Type 0
StmtPartsReady d Inner Ready (Stmt-F.Var t e) = IsValue d.keys t × Inner e
StmtPartsReady d Inner Ready (Stmt-F.SetLocal n e) = (n < 2 ^ 16) × Inner e
StmtPartsReady d Inner Ready (Stmt-F.SetVariable n e) = (n < 2 ^ 8) × Inner e
StmtPartsReady d Inner Ready (Stmt-F.If e a b) = Inner e × Ready a × Ready b
StmtPartsReady d Inner Ready (Stmt-F.While e b) = Inner e × Ready b
StmtPartsReady d Inner Ready Stmt-F.Return = Unit {0}
StmtPartsReady d Inner Ready (Stmt-F.ReturnValue e) = Inner e
StmtPartsReady d Inner Ready (Stmt-F.Print e) = Inner e
StmtPartsReady d Inner Ready (Stmt-F.Free e) = Inner e
StmtPartsReady d Inner Ready (Stmt-F.Call e) = Inner e × IsTrue (is_call e)

-- a statement, where so many levels are left
unfoldable pub StmtReady : ℕ → Directory → Stmt → Type 0
StmtReady zero d s = ⊥
StmtReady (suc left) d s = StmtPartsReady d (ExprReady left d) (StatementsWithin (StmtReady left d)) (out-Stmt s)

-- a body or a main
abbrev pub BlockReady : Directory → Block → Type 0
BlockReady d b = StatementsWithin (StmtReady (levels_left 1) d) b
