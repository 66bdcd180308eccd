-- The outermost part of what an expression or a statement of an image stands for.
use Rattle.std.proofs.Common.{◌≡◌, List, map, refl, sym, ap, ◌∙◌}
use Rattle.som_model.specs.declared.syntax.Expr.{Expr, out-Expr, roll-Expr, out-roll-Expr}
use Rattle.som_model.specs.declared.syntax.Expr.TheVariants.{rolls-Long, rolls-Str, rolls-Boolean, rolls-Nil, rolls-Local, rolls-Me, rolls-Variable, rolls-Unary, rolls-Binary, rolls-New, rolls-Class, rolls-Manager, rolls-Cast, rolls-Isa, rolls-Proxy, rolls-OffsetCall, rolls-Lookup, rolls-Dispatch, rolls-ParentCall, rolls-ParentsCall, rolls-Host}
use Rattle.som_model.specs.declared.syntax.Expr.TheOpen.{Expr-F}
use Rattle.som_model.specs.declared.syntax.Stmt.{Stmt, roll-Stmt}
use Rattle.som_model.specs.declared.syntax.Stmt.TheVariants.{rolls-Var, rolls-SetLocal, rolls-SetVariable, rolls-If, rolls-While, rolls-Return, rolls-ReturnValue, rolls-Print, rolls-Free, rolls-Call}
use Rattle.som_model.specs.declared.syntax.Stmt.TheOpen.{Stmt-F}
use Rattle.som_model.specs.declared.syntax.Block.{Block}
use Rattle.som_model.specs.Blocks.{is_call, is_call_form}
use Rattle.som_image_fields.specs.declared.syntax.WireExpr.{WireExpr, out-WireExpr, roll-WireExpr, roll-out-WireExpr, map-WireExpr, fold-roll-WireExpr}
use Rattle.som_image_fields.specs.declared.syntax.WireExpr.TheOpen.{WireExpr-F}
use Rattle.som_image_fields.specs.declared.syntax.WireStmt.{WireStmt, roll-WireStmt, map-WireStmt, fold-roll-WireStmt}
use Rattle.som_image_fields.specs.declared.syntax.WireStmt.TheOpen.{WireStmt-F}
use Rattle.som_image_fields.specs.declared.syntax.WireBlock.{WireBlock}
use Rattle.som_image_fields.specs.Fitting.{calls}
use Rattle.som_image_decode.specs.declared.directory.Directory.{Directory}
use Rattle.som_image_decode.specs.Naming.{key_at, method_named, kind_named}
use Rattle.som_image_decode.specs.NamedBlocks.{expr_named, expr_named_step, stmt_named, stmt_named_step, block_named, block_named_step}

module _ (d : Directory) where
  -- ---- expressions

  abbrev pub expr_layer : WireExpr-F WireExpr → Expr-F Expr
  expr_layer (WireExpr-F.Long z) = Expr-F.Long z
  expr_layer (WireExpr-F.Str t) = Expr-F.Str t
  expr_layer (WireExpr-F.Boolean b) = Expr-F.Boolean b
  expr_layer WireExpr-F.Nil = Expr-F.Nil
  expr_layer (WireExpr-F.Local n) = Expr-F.Local n
  expr_layer WireExpr-F.Me = Expr-F.Me
  expr_layer (WireExpr-F.Variable n) = Expr-F.Variable n
  expr_layer (WireExpr-F.Unary op e) = Expr-F.Unary op (expr_named d e)
  expr_layer (WireExpr-F.Binary op a b) = Expr-F.Binary op (expr_named d a) (expr_named d b)
  expr_layer (WireExpr-F.New c) = Expr-F.New (key_at d.keys c)
  expr_layer (WireExpr-F.Class c) = Expr-F.Class (key_at d.keys c)
  expr_layer WireExpr-F.Manager = Expr-F.Manager
  expr_layer (WireExpr-F.Cast c e) = Expr-F.Cast (key_at d.keys c) (expr_named d e)
  expr_layer (WireExpr-F.Isa c e) = Expr-F.Isa (key_at d.keys c) (expr_named d e)
  expr_layer (WireExpr-F.Proxy c e) = Expr-F.Proxy (key_at d.keys c) (expr_named d e)
  expr_layer (WireExpr-F.OffsetCall m e es) = Expr-F.OffsetCall (method_named d m) (expr_named d e) (map (expr_named d) es)
  expr_layer (WireExpr-F.Lookup t name e es) = Expr-F.Lookup (kind_named d.keys t) name (expr_named d e) (map (expr_named d) es)
  expr_layer (WireExpr-F.Dispatch t name e es) = Expr-F.Dispatch (kind_named d.keys t) name (expr_named d e) (map (expr_named d) es)
  expr_layer (WireExpr-F.ParentCall n m es) = Expr-F.ParentCall n (method_named d m) (map (expr_named d) es)
  expr_layer (WireExpr-F.ParentsCall m es) = Expr-F.ParentsCall (method_named d m) (map (expr_named d) es)
  expr_layer (WireExpr-F.Host code a b) = Expr-F.Host code (expr_named d a) (expr_named d b)

  layer_named : (layer : WireExpr-F WireExpr) → expr_named_step d (map-WireExpr WireExpr Expr (expr_named d) layer) ≡ roll-Expr (expr_layer layer)
  layer_named (WireExpr-F.Long z) = sym (rolls-Long z)
  layer_named (WireExpr-F.Str t) = sym (rolls-Str t)
  layer_named (WireExpr-F.Boolean b) = sym (rolls-Boolean b)
  layer_named WireExpr-F.Nil = sym rolls-Nil
  layer_named (WireExpr-F.Local n) = sym (rolls-Local n)
  layer_named WireExpr-F.Me = sym rolls-Me
  layer_named (WireExpr-F.Variable n) = sym (rolls-Variable n)
  layer_named (WireExpr-F.Unary op e) = sym (rolls-Unary op (expr_named d e))
  layer_named (WireExpr-F.Binary op a b) = sym (rolls-Binary op (expr_named d a) (expr_named d b))
  layer_named (WireExpr-F.New c) = sym (rolls-New (key_at d.keys c))
  layer_named (WireExpr-F.Class c) = sym (rolls-Class (key_at d.keys c))
  layer_named WireExpr-F.Manager = sym rolls-Manager
  layer_named (WireExpr-F.Cast c e) = sym (rolls-Cast (key_at d.keys c) (expr_named d e))
  layer_named (WireExpr-F.Isa c e) = sym (rolls-Isa (key_at d.keys c) (expr_named d e))
  layer_named (WireExpr-F.Proxy c e) = sym (rolls-Proxy (key_at d.keys c) (expr_named d e))
  layer_named (WireExpr-F.OffsetCall m e es) = sym (rolls-OffsetCall (method_named d m) (expr_named d e) (map (expr_named d) es))
  layer_named (WireExpr-F.Lookup t name e es) = sym (rolls-Lookup (kind_named d.keys t) name (expr_named d e) (map (expr_named d) es))
  layer_named (WireExpr-F.Dispatch t name e es) = sym (rolls-Dispatch (kind_named d.keys t) name (expr_named d e) (map (expr_named d) es))
  layer_named (WireExpr-F.ParentCall n m es) = sym (rolls-ParentCall n (method_named d m) (map (expr_named d) es))
  layer_named (WireExpr-F.ParentsCall m es) = sym (rolls-ParentsCall (method_named d m) (map (expr_named d) es))
  layer_named (WireExpr-F.Host code a b) = sym (rolls-Host code (expr_named d a) (expr_named d b))

  pub expr_is : (layer : WireExpr-F WireExpr) → expr_named d (roll-WireExpr layer) ≡ roll-Expr (expr_layer layer)
  expr_is layer = fold-roll-WireExpr Expr (expr_named_step d) layer ∙ layer_named layer

  -- a call stands for a call, and nothing else does
  call_layer : (layer : WireExpr-F WireExpr) → is_call_form (expr_layer layer) ≡ calls layer
  call_layer (WireExpr-F.Long z) = refl
  call_layer (WireExpr-F.Str t) = refl
  call_layer (WireExpr-F.Boolean b) = refl
  call_layer WireExpr-F.Nil = refl
  call_layer (WireExpr-F.Local n) = refl
  call_layer WireExpr-F.Me = refl
  call_layer (WireExpr-F.Variable n) = refl
  call_layer (WireExpr-F.Unary op e) = refl
  call_layer (WireExpr-F.Binary op a b) = refl
  call_layer (WireExpr-F.New c) = refl
  call_layer (WireExpr-F.Class c) = refl
  call_layer WireExpr-F.Manager = refl
  call_layer (WireExpr-F.Cast c e) = refl
  call_layer (WireExpr-F.Isa c e) = refl
  call_layer (WireExpr-F.Proxy c e) = refl
  call_layer (WireExpr-F.OffsetCall m e es) = refl
  call_layer (WireExpr-F.Lookup t name e es) = refl
  call_layer (WireExpr-F.Dispatch t name e es) = refl
  call_layer (WireExpr-F.ParentCall n m es) = refl
  call_layer (WireExpr-F.ParentsCall m es) = refl
  call_layer (WireExpr-F.Host code a b) = refl

  pub call_named : (e : WireExpr) → is_call (expr_named d e) ≡ calls (out-WireExpr e)
  call_named e =
      ap (λ (x : WireExpr). is_call (expr_named d x)) (sym (roll-out-WireExpr e))
      ∙ ap is_call_form (ap out-Expr (expr_is (out-WireExpr e)) ∙ out-roll-Expr (expr_layer (out-WireExpr e)))
      ∙ call_layer (out-WireExpr e)

  -- ---- statements

  abbrev pub stmt_layer : WireStmt-F WireStmt WireBlock → Stmt-F Stmt Block
  stmt_layer (WireStmt-F.Var t e) = Stmt-F.Var (kind_named d.keys t) (expr_named d e)
  stmt_layer (WireStmt-F.SetLocal n e) = Stmt-F.SetLocal n (expr_named d e)
  stmt_layer (WireStmt-F.SetVariable n e) = Stmt-F.SetVariable n (expr_named d e)
  stmt_layer (WireStmt-F.If e a b) = Stmt-F.If (expr_named d e) (block_named d a) (block_named d b)
  stmt_layer (WireStmt-F.While e b) = Stmt-F.While (expr_named d e) (block_named d b)
  stmt_layer WireStmt-F.Return = Stmt-F.Return
  stmt_layer (WireStmt-F.ReturnValue e) = Stmt-F.ReturnValue (expr_named d e)
  stmt_layer (WireStmt-F.Print e) = Stmt-F.Print (expr_named d e)
  stmt_layer (WireStmt-F.Free e) = Stmt-F.Free (expr_named d e)
  stmt_layer (WireStmt-F.Call e) = Stmt-F.Call (expr_named d e)

  stmt_layer_named : (layer : WireStmt-F WireStmt WireBlock) → stmt_named_step d (map-WireStmt WireStmt WireBlock Stmt Block (stmt_named d) (block_named d) layer) ≡ roll-Stmt (stmt_layer layer)
  stmt_layer_named (WireStmt-F.Var t e) = sym (rolls-Var (kind_named d.keys t) (expr_named d e))
  stmt_layer_named (WireStmt-F.SetLocal n e) = sym (rolls-SetLocal n (expr_named d e))
  stmt_layer_named (WireStmt-F.SetVariable n e) = sym (rolls-SetVariable n (expr_named d e))
  stmt_layer_named (WireStmt-F.If e a b) = sym (rolls-If (expr_named d e) (block_named d a) (block_named d b))
  stmt_layer_named (WireStmt-F.While e b) = sym (rolls-While (expr_named d e) (block_named d b))
  stmt_layer_named WireStmt-F.Return = sym rolls-Return
  stmt_layer_named (WireStmt-F.ReturnValue e) = sym (rolls-ReturnValue (expr_named d e))
  stmt_layer_named (WireStmt-F.Print e) = sym (rolls-Print (expr_named d e))
  stmt_layer_named (WireStmt-F.Free e) = sym (rolls-Free (expr_named d e))
  stmt_layer_named (WireStmt-F.Call e) = sym (rolls-Call (expr_named d e))

  pub stmt_is : (layer : WireStmt-F WireStmt WireBlock) → stmt_named d (roll-WireStmt layer) ≡ roll-Stmt (stmt_layer layer)
  stmt_is layer = fold-roll-WireStmt Stmt Block (stmt_named_step d) block_named_step layer ∙ stmt_layer_named layer
