-- What fits is named to what is within the limits.
use Rattle.std.proofs.Common.{◌≡◌, ℕ, zero, suc, List, [], ◌∷◌, map, refl, sym, ap, subst, ◌∙◌, arith}
use Rattle.std.specs.Prelude.{All}
use Rattle.std.specs.List.{AllByRecursion}
use Rattle.std.proofs.lemmas.List.{length-map}
use Rattle.std.proofs.lemmas.List.Elements.{All-from_recursion, recursion_from_All}
use Rattle.som_model.specs.declared.syntax.Expr.{Expr, out-Expr, roll-Expr, out-roll-Expr}
use Rattle.som_model.specs.declared.syntax.Expr.TheVariants as exprs
use Rattle.som_model.specs.declared.syntax.Expr.TheOpen.{Expr-F}
use Rattle.som_model.specs.declared.syntax.Stmt.{Stmt, out-Stmt, roll-Stmt, out-roll-Stmt}
use Rattle.som_model.specs.declared.syntax.Stmt.TheVariants as stmts
use Rattle.som_model.specs.declared.syntax.Stmt.TheOpen.{Stmt-F}
use Rattle.som_model.specs.declared.syntax.Block.{Block}
use Rattle.som_image_fields.specs.declared.method.WireMethod.{WireMethod}
use Rattle.som_image_fields.specs.declared.syntax.WireExpr.{WireExpr, out-WireExpr, roll-out-WireExpr, roll-WireExpr, map-WireExpr, fold-roll-WireExpr}
use Rattle.som_image_fields.specs.declared.syntax.WireExpr.TheOpen.{WireExpr-F}
use Rattle.som_image_fields.specs.declared.syntax.WireStmt.{WireStmt, out-WireStmt, roll-out-WireStmt, roll-WireStmt, map-WireStmt, fold-roll-WireStmt}
use Rattle.som_image_fields.specs.declared.syntax.WireStmt.TheOpen.{WireStmt-F}
use Rattle.som_image_fields.specs.declared.syntax.WireBlock.{WireBlock, fold-roll-WireBlock}
use Rattle.som_image_fields.specs.Fitting.{FitsArgs, FitsExprParts, FitsExpr, FitsCall, FitsStmtParts, FitsStatements, FitsStmt, FitsBlock, levels_left}
use Rattle.som_image_decode.specs.declared.directory.Directory.{Directory}
use Rattle.som_image_decode.specs.Naming.{key_at, method_named, kind_named}
use Rattle.som_image_decode.specs.NamedBlocks.{expr_named_step, expr_named, stmt_named_step, block_named_step, stmt_named, block_named}
use Rattle.som_image_decode.specs.BlockLimits.{ArgsWithin, ExprPartsWithin, ExprWithin, StmtPartsWithin, StatementsWithin, StmtWithin, BlockWithin}

each_named : {A W : Type 0} (Fits : W → Type 0) (Within : A → Type 0) (named : W → A) → ((w : W) → Fits w → Within (named w)) → (ws : List W) → AllByRecursion Fits ws → AllByRecursion Within (map named ws)
each_named Fits Within named f [] h = tt
each_named Fits Within named f (w ∷ ws) h = (f w h.0, each_named Fits Within named f ws h.1)

all_named : {A W : Type 0} (Fits : W → Type 0) (Within : A → Type 0) (named : W → A) → ((w : W) → Fits w → Within (named w)) → (ws : List W) → All Fits ws → All Within (map named ws)
all_named Fits Within named f ws h = All-from_recursion Within (map named ws) (each_named Fits Within named f ws (recursion_from_All Fits ws h))

-- of any directory, whatever the ranges
module _ (d : Directory) (classes : ℕ) (Method : WireMethod → Type 0) where
  -- ---- expressions, by those that can stand in them

  module _ (Fits : WireExpr → Type 0) (Within : Expr → Type 0) (inner : (e : WireExpr) → Fits e → Within (expr_named d e)) where
    -- by the outermost part
    expr_by : (e : WireExpr) (wire : WireExpr-F WireExpr) (layer : Expr-F Expr) → out-WireExpr e ≡ wire → roll-Expr layer ≡ expr_named_step d (map-WireExpr WireExpr Expr (expr_named d) wire) → ExprPartsWithin Within layer → ExprPartsWithin Within (out-Expr (expr_named d e))
    expr_by e wire layer is rolls parts =
        let named : expr_named d e ≡ roll-Expr layer = ap (expr_named d) (sym (roll-out-WireExpr e) ∙ ap roll-WireExpr is) ∙ fold-roll-WireExpr Expr (expr_named_step d) wire ∙ sym rolls in
        subst (ExprPartsWithin Within) (sym (ap out-Expr named ∙ out-roll-Expr layer)) parts

    args_within : (es : List WireExpr) → FitsArgs Fits es → ArgsWithin Within (map (expr_named d) es)
    args_within es fits = (omega (arith, fits.1, length-map es (expr_named d)), all_named Fits Within (expr_named d) inner es fits.2)

    layer_within : (e : WireExpr) (wire : WireExpr-F WireExpr) → out-WireExpr e ≡ wire → FitsExprParts classes Method Fits wire → ExprPartsWithin Within (out-Expr (expr_named d e))
    layer_within e (WireExpr-F.Long z) is fits = expr_by e (WireExpr-F.Long z) (Expr-F.Long z) is (exprs.rolls-Long z) fits
    layer_within e (WireExpr-F.Str t) is fits = expr_by e (WireExpr-F.Str t) (Expr-F.Str t) is (exprs.rolls-Str t) fits
    layer_within e (WireExpr-F.Boolean b) is fits = expr_by e (WireExpr-F.Boolean b) (Expr-F.Boolean b) is (exprs.rolls-Boolean b) tt
    layer_within e WireExpr-F.Nil is fits = expr_by e WireExpr-F.Nil Expr-F.Nil is exprs.rolls-Nil tt
    layer_within e (WireExpr-F.Local n) is fits = expr_by e (WireExpr-F.Local n) (Expr-F.Local n) is (exprs.rolls-Local n) fits
    layer_within e WireExpr-F.Me is fits = expr_by e WireExpr-F.Me Expr-F.Me is exprs.rolls-Me tt
    layer_within e (WireExpr-F.Variable n) is fits = expr_by e (WireExpr-F.Variable n) (Expr-F.Variable n) is (exprs.rolls-Variable n) fits
    layer_within e (WireExpr-F.Unary op a) is fits = expr_by e (WireExpr-F.Unary op a) (Expr-F.Unary op (expr_named d a)) is (exprs.rolls-Unary op (expr_named d a)) (inner a fits.1)
    layer_within e (WireExpr-F.Binary op a b) is fits = expr_by e (WireExpr-F.Binary op a b) (Expr-F.Binary op (expr_named d a) (expr_named d b)) is (exprs.rolls-Binary op (expr_named d a) (expr_named d b)) (inner a fits.1, inner b fits.2)
    layer_within e (WireExpr-F.New k) is fits = expr_by e (WireExpr-F.New k) (Expr-F.New (key_at d.keys k)) is (exprs.rolls-New (key_at d.keys k)) tt
    layer_within e (WireExpr-F.Class k) is fits = expr_by e (WireExpr-F.Class k) (Expr-F.Class (key_at d.keys k)) is (exprs.rolls-Class (key_at d.keys k)) tt
    layer_within e WireExpr-F.Manager is fits = expr_by e WireExpr-F.Manager Expr-F.Manager is exprs.rolls-Manager tt
    layer_within e (WireExpr-F.Cast k a) is fits = expr_by e (WireExpr-F.Cast k a) (Expr-F.Cast (key_at d.keys k) (expr_named d a)) is (exprs.rolls-Cast (key_at d.keys k) (expr_named d a)) (inner a fits.1)
    layer_within e (WireExpr-F.Isa k a) is fits = expr_by e (WireExpr-F.Isa k a) (Expr-F.Isa (key_at d.keys k) (expr_named d a)) is (exprs.rolls-Isa (key_at d.keys k) (expr_named d a)) (inner a fits.1)
    layer_within e (WireExpr-F.Proxy k a) is fits = expr_by e (WireExpr-F.Proxy k a) (Expr-F.Proxy (key_at d.keys k) (expr_named d a)) is (exprs.rolls-Proxy (key_at d.keys k) (expr_named d a)) (inner a fits.1)
    layer_within e (WireExpr-F.OffsetCall m a es) is fits = expr_by e (WireExpr-F.OffsetCall m a es) (Expr-F.OffsetCall (method_named d m) (expr_named d a) (map (expr_named d) es)) is (exprs.rolls-OffsetCall (method_named d m) (expr_named d a) (map (expr_named d) es)) (inner a fits.1, args_within es fits.2)
    layer_within e (WireExpr-F.Lookup t name a es) is fits = expr_by e (WireExpr-F.Lookup t name a es) (Expr-F.Lookup (kind_named d.keys t) name (expr_named d a) (map (expr_named d) es)) is (exprs.rolls-Lookup (kind_named d.keys t) name (expr_named d a) (map (expr_named d) es)) (fits.1, inner a fits.2, args_within es fits.3)
    layer_within e (WireExpr-F.Dispatch t name a es) is fits = expr_by e (WireExpr-F.Dispatch t name a es) (Expr-F.Dispatch (kind_named d.keys t) name (expr_named d a) (map (expr_named d) es)) is (exprs.rolls-Dispatch (kind_named d.keys t) name (expr_named d a) (map (expr_named d) es)) (fits.1, inner a fits.2, args_within es fits.3)
    layer_within e (WireExpr-F.ParentCall n m es) is fits = expr_by e (WireExpr-F.ParentCall n m es) (Expr-F.ParentCall n (method_named d m) (map (expr_named d) es)) is (exprs.rolls-ParentCall n (method_named d m) (map (expr_named d) es)) (fits.0, args_within es fits.2)
    layer_within e (WireExpr-F.ParentsCall m es) is fits = expr_by e (WireExpr-F.ParentsCall m es) (Expr-F.ParentsCall (method_named d m) (map (expr_named d) es)) is (exprs.rolls-ParentsCall (method_named d m) (map (expr_named d) es)) (args_within es fits.1)
    layer_within e (WireExpr-F.Host code a b) is fits = expr_by e (WireExpr-F.Host code a b) (Expr-F.Host code (expr_named d a) (expr_named d b)) is (exprs.rolls-Host code (expr_named d a) (expr_named d b)) (inner a fits.0, inner b fits.1)

  -- an expression, where so many levels are left
  expr_within : (left : ℕ) (e : WireExpr) → FitsExpr left classes Method e → ExprWithin left (expr_named d e)
  unfolding FitsExpr ExprWithin
  expr_within zero e fits = absurd fits
  expr_within (suc left) e fits = layer_within (FitsExpr left classes Method) (ExprWithin left) (expr_within left) e (out-WireExpr e) refl fits

  -- ---- statements, by what can stand in them

  module _ (Fits Call : WireExpr → Type 0) (Within : Expr → Type 0) (inner : (e : WireExpr) → Fits e → Within (expr_named d e)) (call : (e : WireExpr) → Call e → Fits e)
      (BlockIn : WireBlock → Type 0) (BlockOut : Block → Type 0) (block : (b : WireBlock) → BlockIn b → BlockOut (block_named d b)) where
    -- by the outermost part
    stmt_by : (s : WireStmt) (wire : WireStmt-F WireStmt WireBlock) (layer : Stmt-F Stmt Block) → out-WireStmt s ≡ wire → roll-Stmt layer ≡ stmt_named_step d (map-WireStmt WireStmt WireBlock Stmt Block (stmt_named d) (block_named d) wire) → StmtPartsWithin Within BlockOut layer → StmtPartsWithin Within BlockOut (out-Stmt (stmt_named d s))
    stmt_by s wire layer is rolls parts =
        let named : stmt_named d s ≡ roll-Stmt layer = ap (stmt_named d) (sym (roll-out-WireStmt s) ∙ ap roll-WireStmt is) ∙ fold-roll-WireStmt Stmt Block (stmt_named_step d) block_named_step wire ∙ sym rolls in
        subst (StmtPartsWithin Within BlockOut) (sym (ap out-Stmt named ∙ out-roll-Stmt layer)) parts

    statement_within : (s : WireStmt) (wire : WireStmt-F WireStmt WireBlock) → out-WireStmt s ≡ wire → FitsStmtParts classes Fits Call BlockIn wire → StmtPartsWithin Within BlockOut (out-Stmt (stmt_named d s))
    statement_within s (WireStmt-F.Var t e) is fits = stmt_by s (WireStmt-F.Var t e) (Stmt-F.Var (kind_named d.keys t) (expr_named d e)) is (stmts.rolls-Var (kind_named d.keys t) (expr_named d e)) (inner e fits.1)
    statement_within s (WireStmt-F.SetLocal n e) is fits = stmt_by s (WireStmt-F.SetLocal n e) (Stmt-F.SetLocal n (expr_named d e)) is (stmts.rolls-SetLocal n (expr_named d e)) (fits.0, inner e fits.1)
    statement_within s (WireStmt-F.SetVariable n e) is fits = stmt_by s (WireStmt-F.SetVariable n e) (Stmt-F.SetVariable n (expr_named d e)) is (stmts.rolls-SetVariable n (expr_named d e)) (fits.0, inner e fits.1)
    statement_within s (WireStmt-F.If e a b) is fits = stmt_by s (WireStmt-F.If e a b) (Stmt-F.If (expr_named d e) (block_named d a) (block_named d b)) is (stmts.rolls-If (expr_named d e) (block_named d a) (block_named d b)) (inner e fits.0, block a fits.1, block b fits.2)
    statement_within s (WireStmt-F.While e b) is fits = stmt_by s (WireStmt-F.While e b) (Stmt-F.While (expr_named d e) (block_named d b)) is (stmts.rolls-While (expr_named d e) (block_named d b)) (inner e fits.0, block b fits.1)
    statement_within s WireStmt-F.Return is fits = stmt_by s WireStmt-F.Return Stmt-F.Return is stmts.rolls-Return tt
    statement_within s (WireStmt-F.ReturnValue e) is fits = stmt_by s (WireStmt-F.ReturnValue e) (Stmt-F.ReturnValue (expr_named d e)) is (stmts.rolls-ReturnValue (expr_named d e)) (inner e fits)
    statement_within s (WireStmt-F.Print e) is fits = stmt_by s (WireStmt-F.Print e) (Stmt-F.Print (expr_named d e)) is (stmts.rolls-Print (expr_named d e)) (inner e fits)
    statement_within s (WireStmt-F.Free e) is fits = stmt_by s (WireStmt-F.Free e) (Stmt-F.Free (expr_named d e)) is (stmts.rolls-Free (expr_named d e)) (inner e fits)
    statement_within s (WireStmt-F.Call e) is fits = stmt_by s (WireStmt-F.Call e) (Stmt-F.Call (expr_named d e)) is (stmts.rolls-Call (expr_named d e)) (inner e (call e fits))

  statements_within : (Fits : WireStmt → Type 0) (Within : Stmt → Type 0) → ((s : WireStmt) → Fits s → Within (stmt_named d s)) → (b : WireBlock) → FitsStatements Fits b → StatementsWithin Within (block_named d b)
  statements_within Fits Within one b fits =
      subst (StatementsWithin Within) (sym (fold-roll-WireBlock Stmt Block (stmt_named_step d) block_named_step (record { statements = b.statements })))
      (omega (arith, fits.0, length-map b.statements (stmt_named d)), all_named Fits Within (stmt_named d) one b.statements fits.1)

  -- a statement, where so many levels are left
  stmt_within : (left : ℕ) (s : WireStmt) → FitsStmt left classes Method s → StmtWithin left (stmt_named d s)
  unfolding FitsStmt StmtWithin
  stmt_within zero s fits = absurd fits
  stmt_within (suc left) s fits =
      statement_within (FitsExpr left classes Method) (FitsCall left classes Method) (ExprWithin left) (expr_within left) (λ e h. h.0)
      (FitsStatements (FitsStmt left classes Method)) (StatementsWithin (StmtWithin left)) (statements_within (FitsStmt left classes Method) (StmtWithin left) (stmt_within left))
      s (out-WireStmt s) refl fits

  pub named_is_within : (b : WireBlock) → FitsBlock (levels_left 1) classes Method b → BlockWithin (block_named d b)
  named_is_within b fits = statements_within (FitsStmt (levels_left 1) classes Method) (StmtWithin (levels_left 1)) (stmt_within (levels_left 1)) b fits
