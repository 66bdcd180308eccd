-- What is ready is numbered to what fits, and is named back.
use Rattle.std.proofs.Common.{◌≡◌, ℕ, zero, suc, List, length, map, refl, sym, ap, subst, ◌∙◌, arith}
use Rattle.std.specs.Prelude.{IsTrue}
use Rattle.std.proofs.lemmas.List.{length-map}
use Rattle.som_model.specs.declared.limits.TheConstants.{MAX_PARAMETERS}
use Rattle.som_model.specs.declared.key.ClassKey.{ClassKey}
use Rattle.som_model.specs.declared.key.MethodRef.{MethodRef}
use Rattle.som_model.specs.declared.key.ValueType.{ValueType}
use Rattle.som_model.specs.declared.syntax.Expr.{Expr, out-Expr, roll-Expr, roll-out-Expr, map-Expr, fold-roll-Expr}
use Rattle.som_model.specs.declared.syntax.Expr.TheVariants as exprs
use Rattle.som_model.specs.declared.syntax.Expr.TheOpen.{Expr-F}
use Rattle.som_model.specs.declared.syntax.Stmt.{Stmt, out-Stmt, roll-Stmt, roll-out-Stmt, map-Stmt, fold-roll-Stmt}
use Rattle.som_model.specs.declared.syntax.Stmt.TheVariants as stmts
use Rattle.som_model.specs.declared.syntax.Stmt.TheOpen.{Stmt-F}
use Rattle.som_model.specs.declared.syntax.Block.{Block, fold-roll-Block}
use Rattle.som_model.specs.Blocks.{is_call_form, is_call}
use Rattle.som_image_fields.specs.declared.method.WireMethod.{WireMethod}
use Rattle.som_image_fields.specs.Spelling.{FitsMethod}
use Rattle.som_image_fields.specs.declared.syntax.WireExpr.{WireExpr, out-WireExpr, roll-WireExpr, out-roll-WireExpr, map-WireExpr, fold-roll-WireExpr}
use Rattle.som_image_fields.specs.declared.syntax.WireExpr.TheVariants as wires
use Rattle.som_image_fields.specs.declared.syntax.WireExpr.TheOpen.{WireExpr-F}
use Rattle.som_image_fields.specs.declared.syntax.WireStmt.{WireStmt, out-WireStmt, roll-WireStmt, out-roll-WireStmt, map-WireStmt, fold-roll-WireStmt}
use Rattle.som_image_fields.specs.declared.syntax.WireStmt.TheVariants as wire_stmts
use Rattle.som_image_fields.specs.declared.syntax.WireStmt.TheOpen.{WireStmt-F}
use Rattle.som_image_fields.specs.declared.syntax.WireBlock.{WireBlock, fold-roll-WireBlock}
use Rattle.som_image_fields.specs.Fitting.{FitsArgs, FitsExprParts, FitsExpr, calls, FitsStmtParts, FitsStatements, FitsStmt, FitsBlock, levels_left}
use Rattle.som_image_decode.specs.declared.directory.Directory.{Directory}
use Rattle.som_image_decode.specs.Naming.{ranges_in}
use Rattle.som_image_decode.specs.NamedBlocks.{expr_named_step, expr_named, stmt_named_step, block_named_step, stmt_named, block_named}
use Rattle.som_image_encode.specs.Numbering.{number_of, method_numbered, kind_numbered}
use Rattle.som_image_encode.specs.NumberedBlocks.{expr_step, expr_numbered, stmt_step, block_step, stmt_numbered, block_numbered}
use Rattle.som_image_decode.specs.BlockLimits.{ArgsWithin, StatementsWithin}
use Rattle.som_image_encode.specs.ReadyBlocks.{ExprPartsReady, ExprReady, StmtPartsReady, StmtReady, BlockReady}
use Rattle.som_image_encode.proofs.NumberedKinds.{TurnsBack, each_of, counted_turn, key_turns, method_turns, kind_turns, value_turns}

abbrev a_block : List Stmt → Block
a_block ss = record { statements = ss }

abbrev a_wire_block : List WireStmt → WireBlock
a_wire_block ss = record { statements = ss }

-- a block, by its statements
pub block_is : (d : Directory) (b : Block) → block_numbered d b ≡ a_wire_block (map (stmt_numbered d) b.statements)
block_is d b = fold-roll-Block WireStmt WireBlock (stmt_step d) block_step (record { statements = b.statements })

module _ (d : Directory) where
  abbrev classes : ℕ
  classes = length d.keys

  abbrev Method : WireMethod → Type 0
  Method = FitsMethod (ranges_in d)

  -- an expression turns back, and it is a call as it was
  pub record ExprTurns (Fits : WireExpr → Type 0) (e : Expr) : Type 0 where
    pub back : TurnsBack Fits (expr_named d) (expr_numbered d) e
    pub call : calls (out-WireExpr (expr_numbered d e)) ≡ is_call e

  -- ---- expressions, by those that can stand in them

  module _ (Ready : Expr → Type 0) (Fits : WireExpr → Type 0) (inner : (e : Expr) → Ready e → ExprTurns Fits e) where
    abbrev FitsHere : WireExpr → Type 0
    FitsHere e = FitsExprParts classes Method Fits (out-WireExpr e)

    -- by the outermost part
    turned : (e : Expr) (layer : Expr-F Expr) (wire : WireExpr-F WireExpr) → out-Expr e ≡ layer
        → roll-WireExpr wire ≡ expr_step d (map-Expr Expr WireExpr (expr_numbered d) layer)
        → FitsExprParts classes Method Fits wire
        → expr_named_step d (map-WireExpr WireExpr Expr (expr_named d) wire) ≡ roll-Expr layer
        → calls wire ≡ is_call_form layer
        → ExprTurns FitsHere e
    turned e layer wire is rolls fits named called =
        let numbered : expr_numbered d e ≡ roll-WireExpr wire = ap (expr_numbered d) (sym (roll-out-Expr e) ∙ ap roll-Expr is) ∙ fold-roll-Expr WireExpr (expr_step d) layer ∙ sym rolls in
        let out : out-WireExpr (expr_numbered d e) ≡ wire = ap out-WireExpr numbered ∙ out-roll-WireExpr wire in
        record {
          back = record {
            fits = subst (FitsExprParts classes Method Fits) (sym out) fits;
            names = ap (expr_named d) numbered ∙ fold-roll-WireExpr Expr (expr_named_step d) wire ∙ named ∙ ap roll-Expr (sym is) ∙ roll-out-Expr e;
          };
          call = ap (calls {A = WireExpr}) out ∙ called ∙ ap is_call_form (sym is);
        }

    args_turn : (es : List Expr) → ArgsWithin Ready es → TurnsBack (FitsArgs Fits) (map (expr_named d)) (map (expr_numbered d)) es
    args_turn es ready =
        counted_turn Fits (expr_named d) (expr_numbered d) 0 MAX_PARAMETERS es (omega arith) ready.0
        (each_of Ready (TurnsBack Fits (expr_named d) (expr_numbered d)) (λ e r. (inner e r).back) es ready.1)

    layer_turns : (e : Expr) (layer : Expr-F Expr) → out-Expr e ≡ layer → ExprPartsReady d Ready layer → ExprTurns FitsHere e
    layer_turns e (Expr-F.Long z) is ready =
        turned e (Expr-F.Long z) (WireExpr-F.Long z) is (wires.rolls-Long z) ready (sym (exprs.rolls-Long z)) refl
    layer_turns e (Expr-F.Str t) is ready =
        turned e (Expr-F.Str t) (WireExpr-F.Str t) is (wires.rolls-Str t) ready (sym (exprs.rolls-Str t)) refl
    layer_turns e (Expr-F.Boolean b) is ready =
        turned e (Expr-F.Boolean b) (WireExpr-F.Boolean b) is (wires.rolls-Boolean b) tt (sym (exprs.rolls-Boolean b)) refl
    layer_turns e Expr-F.Nil is ready =
        turned e Expr-F.Nil WireExpr-F.Nil is wires.rolls-Nil tt (sym exprs.rolls-Nil) refl
    layer_turns e (Expr-F.Local n) is ready =
        turned e (Expr-F.Local n) (WireExpr-F.Local n) is (wires.rolls-Local n) ready (sym (exprs.rolls-Local n)) refl
    layer_turns e Expr-F.Me is ready =
        turned e Expr-F.Me WireExpr-F.Me is wires.rolls-Me tt (sym exprs.rolls-Me) refl
    layer_turns e (Expr-F.Variable n) is ready =
        turned e (Expr-F.Variable n) (WireExpr-F.Variable n) is (wires.rolls-Variable n) ready (sym (exprs.rolls-Variable n)) refl
    layer_turns e Expr-F.Manager is ready =
        turned e Expr-F.Manager WireExpr-F.Manager is wires.rolls-Manager tt (sym exprs.rolls-Manager) refl
    layer_turns e (Expr-F.Unary op a) is ready =
        let a1 = (inner a ready.1).back in
        turned e (Expr-F.Unary op a) (WireExpr-F.Unary op (expr_numbered d a)) is (wires.rolls-Unary op (expr_numbered d a)) (ready.0, a1.fits) (ap (λ (x : Expr). exprs.Unary op x) a1.names ∙ sym (exprs.rolls-Unary op a)) refl
    layer_turns e (Expr-F.Binary op a b) is ready =
        let a1 = (inner a ready.1).back in
        let b1 = (inner b ready.2).back in
        turned e (Expr-F.Binary op a b) (WireExpr-F.Binary op (expr_numbered d a) (expr_numbered d b)) is (wires.rolls-Binary op (expr_numbered d a) (expr_numbered d b)) (ready.0, a1.fits, b1.fits) (ap (λ (x : Expr). exprs.Binary op x (expr_named d (expr_numbered d b))) a1.names ∙ ap (λ (x : Expr). exprs.Binary op a x) b1.names ∙ sym (exprs.rolls-Binary op a b)) refl
    layer_turns e (Expr-F.New k) is ready =
        let k1 = key_turns d.keys k ready in
        turned e (Expr-F.New k) (WireExpr-F.New (number_of d.keys k)) is (wires.rolls-New (number_of d.keys k)) k1.fits (ap (λ (x : ClassKey). exprs.New x) k1.names ∙ sym (exprs.rolls-New k)) refl
    layer_turns e (Expr-F.Class k) is ready =
        let k1 = key_turns d.keys k ready in
        turned e (Expr-F.Class k) (WireExpr-F.Class (number_of d.keys k)) is (wires.rolls-Class (number_of d.keys k)) k1.fits (ap (λ (x : ClassKey). exprs.Class x) k1.names ∙ sym (exprs.rolls-Class k)) refl
    layer_turns e (Expr-F.Cast k a) is ready =
        let k1 = key_turns d.keys k ready.0 in
        let a1 = (inner a ready.1).back in
        turned e (Expr-F.Cast k a) (WireExpr-F.Cast (number_of d.keys k) (expr_numbered d a)) is (wires.rolls-Cast (number_of d.keys k) (expr_numbered d a)) (k1.fits, a1.fits) (ap (λ (x : ClassKey). exprs.Cast x (expr_named d (expr_numbered d a))) k1.names ∙ ap (λ (x : Expr). exprs.Cast k x) a1.names ∙ sym (exprs.rolls-Cast k a)) refl
    layer_turns e (Expr-F.Isa k a) is ready =
        let k1 = key_turns d.keys k ready.0 in
        let a1 = (inner a ready.1).back in
        turned e (Expr-F.Isa k a) (WireExpr-F.Isa (number_of d.keys k) (expr_numbered d a)) is (wires.rolls-Isa (number_of d.keys k) (expr_numbered d a)) (k1.fits, a1.fits) (ap (λ (x : ClassKey). exprs.Isa x (expr_named d (expr_numbered d a))) k1.names ∙ ap (λ (x : Expr). exprs.Isa k x) a1.names ∙ sym (exprs.rolls-Isa k a)) refl
    layer_turns e (Expr-F.Proxy k a) is ready =
        let k1 = key_turns d.keys k ready.0 in
        let a1 = (inner a ready.1).back in
        turned e (Expr-F.Proxy k a) (WireExpr-F.Proxy (number_of d.keys k) (expr_numbered d a)) is (wires.rolls-Proxy (number_of d.keys k) (expr_numbered d a)) (k1.fits, a1.fits) (ap (λ (x : ClassKey). exprs.Proxy x (expr_named d (expr_numbered d a))) k1.names ∙ ap (λ (x : Expr). exprs.Proxy k x) a1.names ∙ sym (exprs.rolls-Proxy k a)) refl
    layer_turns e (Expr-F.OffsetCall m a es) is ready =
        let m1 = method_turns d m ready.0 in
        let a1 = (inner a ready.1).back in
        let l1 = args_turn es ready.2 in
        turned e (Expr-F.OffsetCall m a es) (WireExpr-F.OffsetCall (method_numbered d m) (expr_numbered d a) (map (expr_numbered d) es)) is (wires.rolls-OffsetCall (method_numbered d m) (expr_numbered d a) (map (expr_numbered d) es)) (m1.fits, a1.fits, l1.fits) (ap (λ (x : MethodRef). exprs.OffsetCall x (expr_named d (expr_numbered d a)) (map (expr_named d) (map (expr_numbered d) es))) m1.names ∙ ap (λ (x : Expr). exprs.OffsetCall m x (map (expr_named d) (map (expr_numbered d) es))) a1.names ∙ ap (λ (x : List Expr). exprs.OffsetCall m a x) l1.names ∙ sym (exprs.rolls-OffsetCall m a es)) refl
    layer_turns e (Expr-F.Lookup t name a es) is ready =
        let t1 = kind_turns d.keys t ready.0 in
        let a1 = (inner a ready.2).back in
        let l1 = args_turn es ready.3 in
        turned e (Expr-F.Lookup t name a es) (WireExpr-F.Lookup (kind_numbered d.keys t) name (expr_numbered d a) (map (expr_numbered d) es)) is (wires.rolls-Lookup (kind_numbered d.keys t) name (expr_numbered d a) (map (expr_numbered d) es)) (t1.fits, ready.1, a1.fits, l1.fits) (ap (λ (x : ValueType). exprs.Lookup x name (expr_named d (expr_numbered d a)) (map (expr_named d) (map (expr_numbered d) es))) t1.names ∙ ap (λ (x : Expr). exprs.Lookup t name x (map (expr_named d) (map (expr_numbered d) es))) a1.names ∙ ap (λ (x : List Expr). exprs.Lookup t name a x) l1.names ∙ sym (exprs.rolls-Lookup t name a es)) refl
    layer_turns e (Expr-F.Dispatch t name a es) is ready =
        let t1 = kind_turns d.keys t ready.0 in
        let a1 = (inner a ready.2).back in
        let l1 = args_turn es ready.3 in
        turned e (Expr-F.Dispatch t name a es) (WireExpr-F.Dispatch (kind_numbered d.keys t) name (expr_numbered d a) (map (expr_numbered d) es)) is (wires.rolls-Dispatch (kind_numbered d.keys t) name (expr_numbered d a) (map (expr_numbered d) es)) (t1.fits, ready.1, a1.fits, l1.fits) (ap (λ (x : ValueType). exprs.Dispatch x name (expr_named d (expr_numbered d a)) (map (expr_named d) (map (expr_numbered d) es))) t1.names ∙ ap (λ (x : Expr). exprs.Dispatch t name x (map (expr_named d) (map (expr_numbered d) es))) a1.names ∙ ap (λ (x : List Expr). exprs.Dispatch t name a x) l1.names ∙ sym (exprs.rolls-Dispatch t name a es)) refl
    layer_turns e (Expr-F.ParentCall n m es) is ready =
        let m1 = method_turns d m ready.1 in
        let l1 = args_turn es ready.2 in
        turned e (Expr-F.ParentCall n m es) (WireExpr-F.ParentCall n (method_numbered d m) (map (expr_numbered d) es)) is (wires.rolls-ParentCall n (method_numbered d m) (map (expr_numbered d) es)) (ready.0, m1.fits, l1.fits) (ap (λ (x : MethodRef). exprs.ParentCall n x (map (expr_named d) (map (expr_numbered d) es))) m1.names ∙ ap (λ (x : List Expr). exprs.ParentCall n m x) l1.names ∙ sym (exprs.rolls-ParentCall n m es)) refl
    layer_turns e (Expr-F.ParentsCall m es) is ready =
        let m1 = method_turns d m ready.0 in
        let l1 = args_turn es ready.1 in
        turned e (Expr-F.ParentsCall m es) (WireExpr-F.ParentsCall (method_numbered d m) (map (expr_numbered d) es)) is (wires.rolls-ParentsCall (method_numbered d m) (map (expr_numbered d) es)) (m1.fits, l1.fits) (ap (λ (x : MethodRef). exprs.ParentsCall x (map (expr_named d) (map (expr_numbered d) es))) m1.names ∙ ap (λ (x : List Expr). exprs.ParentsCall m x) l1.names ∙ sym (exprs.rolls-ParentsCall m es)) refl
    layer_turns e (Expr-F.Host code a b) is ready =
        let a1 = (inner a ready.0).back in
        let b1 = (inner b ready.1).back in
        turned e (Expr-F.Host code a b) (WireExpr-F.Host code (expr_numbered d a) (expr_numbered d b)) is (wires.rolls-Host code (expr_numbered d a) (expr_numbered d b)) (a1.fits, b1.fits) (ap (λ (x : Expr). exprs.Host code x (expr_named d (expr_numbered d b))) a1.names ∙ ap (λ (x : Expr). exprs.Host code a x) b1.names ∙ sym (exprs.rolls-Host code a b)) refl

  -- an expression, where so many levels are left
  expr_turns : (left : ℕ) (e : Expr) → ExprReady left d e → ExprTurns (FitsExpr left classes Method) e
  unfolding ExprReady FitsExpr
  expr_turns zero e ready = absurd ready
  expr_turns (suc left) e ready = layer_turns (ExprReady left d) (FitsExpr left classes Method) (expr_turns left) e (out-Expr e) refl ready

  -- ---- statements, by what can stand in them

  module _ (Ready : Expr → Type 0) (Fits : WireExpr → Type 0) (inner : (e : Expr) → Ready e → ExprTurns Fits e)
      (BlockIn : Block → Type 0) (BlockOut : WireBlock → Type 0) (block : (b : Block) → BlockIn b → TurnsBack BlockOut (block_named d) (block_numbered d) b) where
    abbrev FitsCalls : WireExpr → Type 0
    FitsCalls e = Fits e × IsTrue (calls (out-WireExpr e))

    abbrev Parts : WireStmt-F WireStmt WireBlock → Type 0
    Parts = FitsStmtParts classes Fits FitsCalls BlockOut

    abbrev FitsStatement : WireStmt → Type 0
    FitsStatement s = Parts (out-WireStmt s)

    abbrev Turns : Stmt → Type 0
    Turns s = TurnsBack FitsStatement (stmt_named d) (stmt_numbered d) s

    -- by the outermost part
    stmt_turned : (s : Stmt) (layer : Stmt-F Stmt Block) (wire : WireStmt-F WireStmt WireBlock) → out-Stmt s ≡ layer
        → roll-WireStmt wire ≡ stmt_step d (map-Stmt Stmt Block WireStmt WireBlock (stmt_numbered d) (block_numbered d) layer)
        → Parts wire
        → stmt_named_step d (map-WireStmt WireStmt WireBlock Stmt Block (stmt_named d) (block_named d) wire) ≡ roll-Stmt layer
        → Turns s
    stmt_turned s layer wire is rolls fits named =
        let numbered : stmt_numbered d s ≡ roll-WireStmt wire = ap (stmt_numbered d) (sym (roll-out-Stmt s) ∙ ap roll-Stmt is) ∙ fold-roll-Stmt WireStmt WireBlock (stmt_step d) block_step layer ∙ sym rolls in
        record {
          fits = subst Parts (sym (ap out-WireStmt numbered ∙ out-roll-WireStmt wire)) fits;
          names = ap (stmt_named d) numbered ∙ fold-roll-WireStmt Stmt Block (stmt_named_step d) block_named_step wire ∙ named ∙ ap roll-Stmt (sym is) ∙ roll-out-Stmt s;
        }

    statement_turns : (s : Stmt) (layer : Stmt-F Stmt Block) → out-Stmt s ≡ layer → StmtPartsReady d Ready BlockIn layer → Turns s
    statement_turns s (Stmt-F.Var t e) is ready =
        let t1 = value_turns d.keys t ready.0 in
        let e1 = (inner e ready.1).back in
        stmt_turned s (Stmt-F.Var t e) (WireStmt-F.Var (kind_numbered d.keys t) (expr_numbered d e)) is (wire_stmts.rolls-Var (kind_numbered d.keys t) (expr_numbered d e)) (t1.fits, e1.fits) (ap (λ (x : ValueType). stmts.Var x (expr_named d (expr_numbered d e))) t1.names ∙ ap (λ (x : Expr). stmts.Var t x) e1.names ∙ sym (stmts.rolls-Var t e))
    statement_turns s (Stmt-F.SetLocal n e) is ready =
        let e1 = (inner e ready.1).back in
        stmt_turned s (Stmt-F.SetLocal n e) (WireStmt-F.SetLocal n (expr_numbered d e)) is (wire_stmts.rolls-SetLocal n (expr_numbered d e)) (ready.0, e1.fits) (ap (λ (x : Expr). stmts.SetLocal n x) e1.names ∙ sym (stmts.rolls-SetLocal n e))
    statement_turns s (Stmt-F.SetVariable n e) is ready =
        let e1 = (inner e ready.1).back in
        stmt_turned s (Stmt-F.SetVariable n e) (WireStmt-F.SetVariable n (expr_numbered d e)) is (wire_stmts.rolls-SetVariable n (expr_numbered d e)) (ready.0, e1.fits) (ap (λ (x : Expr). stmts.SetVariable n x) e1.names ∙ sym (stmts.rolls-SetVariable n e))
    statement_turns s (Stmt-F.If e a b) is ready =
        let e1 = (inner e ready.0).back in
        let a1 = block a ready.1 in
        let b1 = block b ready.2 in
        stmt_turned s (Stmt-F.If e a b) (WireStmt-F.If (expr_numbered d e) (block_numbered d a) (block_numbered d b)) is (wire_stmts.rolls-If (expr_numbered d e) (block_numbered d a) (block_numbered d b)) (e1.fits, a1.fits, b1.fits) (ap (λ (x : Expr). stmts.If x (block_named d (block_numbered d a)) (block_named d (block_numbered d b))) e1.names ∙ ap (λ (x : Block). stmts.If e x (block_named d (block_numbered d b))) a1.names ∙ ap (λ (x : Block). stmts.If e a x) b1.names ∙ sym (stmts.rolls-If e a b))
    statement_turns s (Stmt-F.While e b) is ready =
        let e1 = (inner e ready.0).back in
        let b1 = block b ready.1 in
        stmt_turned s (Stmt-F.While e b) (WireStmt-F.While (expr_numbered d e) (block_numbered d b)) is (wire_stmts.rolls-While (expr_numbered d e) (block_numbered d b)) (e1.fits, b1.fits) (ap (λ (x : Expr). stmts.While x (block_named d (block_numbered d b))) e1.names ∙ ap (λ (x : Block). stmts.While e x) b1.names ∙ sym (stmts.rolls-While e b))
    statement_turns s Stmt-F.Return is ready =
        stmt_turned s Stmt-F.Return WireStmt-F.Return is wire_stmts.rolls-Return tt (sym stmts.rolls-Return)
    statement_turns s (Stmt-F.ReturnValue e) is ready =
        let e1 = (inner e ready).back in
        stmt_turned s (Stmt-F.ReturnValue e) (WireStmt-F.ReturnValue (expr_numbered d e)) is (wire_stmts.rolls-ReturnValue (expr_numbered d e)) e1.fits (ap (λ (x : Expr). stmts.ReturnValue x) e1.names ∙ sym (stmts.rolls-ReturnValue e))
    statement_turns s (Stmt-F.Print e) is ready =
        let e1 = (inner e ready).back in
        stmt_turned s (Stmt-F.Print e) (WireStmt-F.Print (expr_numbered d e)) is (wire_stmts.rolls-Print (expr_numbered d e)) e1.fits (ap (λ (x : Expr). stmts.Print x) e1.names ∙ sym (stmts.rolls-Print e))
    statement_turns s (Stmt-F.Free e) is ready =
        let e1 = (inner e ready).back in
        stmt_turned s (Stmt-F.Free e) (WireStmt-F.Free (expr_numbered d e)) is (wire_stmts.rolls-Free (expr_numbered d e)) e1.fits (ap (λ (x : Expr). stmts.Free x) e1.names ∙ sym (stmts.rolls-Free e))
    statement_turns s (Stmt-F.Call e) is ready =
        let e1 = inner e ready.0 in
        stmt_turned s (Stmt-F.Call e) (WireStmt-F.Call (expr_numbered d e)) is (wire_stmts.rolls-Call (expr_numbered d e)) (e1.back.fits, e1.call ∙ ready.1) (ap (λ (x : Expr). stmts.Call x) e1.back.names ∙ sym (stmts.rolls-Call e))

  -- a block, by the statements that can stand in it
  block_turns : (Ready : Stmt → Type 0) (Fits : WireStmt → Type 0) → ((s : Stmt) → Ready s → TurnsBack Fits (stmt_named d) (stmt_numbered d) s) → (b : Block) → StatementsWithin Ready b → TurnsBack (FitsStatements Fits) (block_named d) (block_numbered d) b
  block_turns Ready Fits one b ready =
      let ss = counted_turn Fits (stmt_named d) (stmt_numbered d) 0 (length b.statements) b.statements (omega arith) (omega arith) (each_of Ready (TurnsBack Fits (stmt_named d) (stmt_numbered d)) one b.statements ready.1) in
      let numbered : block_numbered d b ≡ a_wire_block (map (stmt_numbered d) b.statements) = block_is d b in
      record {
        fits = subst (FitsStatements Fits) (sym numbered) (omega (arith, ready.0, length-map b.statements (stmt_numbered d)), ss.fits.2);
        names = ap (block_named d) numbered ∙ fold-roll-WireBlock Stmt Block (stmt_named_step d) block_named_step (record { statements = map (stmt_numbered d) b.statements }) ∙ ap a_block ss.names;
      }

  -- a statement, where so many levels are left
  stmt_turns : (left : ℕ) (s : Stmt) → StmtReady left d s → TurnsBack (FitsStmt left classes Method) (stmt_named d) (stmt_numbered d) s
  unfolding StmtReady FitsStmt
  stmt_turns zero s ready = absurd ready
  stmt_turns (suc left) s ready =
      statement_turns (ExprReady left d) (FitsExpr left classes Method) (expr_turns left)
      (StatementsWithin (StmtReady left d)) (FitsStatements (FitsStmt left classes Method)) (block_turns (StmtReady left d) (FitsStmt left classes Method) (stmt_turns left))
      s (out-Stmt s) refl ready

  pub ready_turns : (b : Block) → BlockReady d b → TurnsBack (FitsBlock (levels_left 1) classes Method) (block_named d) (block_numbered d) b
  ready_turns b ready = block_turns (StmtReady (levels_left 1) d) (FitsStmt (levels_left 1) classes Method) (stmt_turns (levels_left 1)) b ready
