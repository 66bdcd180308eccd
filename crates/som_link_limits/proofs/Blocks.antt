-- Blocks that an image has room for are within the counts, form by form.
use Rattle.std.proofs.Common.{◌≡◌, ℕ, zero, suc, ◌<◌, ◌≤◌, ◌^◌, ◌&&◌, Bool, true, nat_lt, nat_le, List, [], ◌∷◌, length, map, refl, sym, ap, ◌∙◌, le-leb}
use Rattle.std.specs.List.{AllByRecursion}
use Rattle.std.proofs.lemmas.Bool.{lt-ltb}
use Rattle.std.proofs.lemmas.List.{length-map}
use Rattle.std.proofs.lemmas.List.Elements.{recursion_from_All}
use Rattle.som_model.specs.declared.limits.TheConstants.{MAX_PARAMETERS, MAX_TEXT}
use Rattle.som_model.specs.declared.syntax.Expr.{Expr, out-Expr, roll-out-Expr, map-Expr, fold-roll-Expr}
use Rattle.som_model.specs.declared.syntax.Expr.TheOpen.{Expr-F}
use Rattle.som_model.specs.declared.syntax.Stmt.{Stmt, out-Stmt, roll-out-Stmt, fold-Stmt, map-Stmt, fold-roll-Stmt}
use Rattle.som_model.specs.declared.syntax.Stmt.TheOpen.{Stmt-F}
use Rattle.som_model.specs.declared.syntax.Block.{Block, fold-roll-Block}
use Rattle.som_model.specs.Counts.{args_counted, block_counted, block_counted_step, expr_counted, expr_counted_step, is_short, stmt_counted_step}
use Rattle.som_model.specs.Lists.{every}
use Rattle.som_image_fields.specs.Fitting.{levels_left}
use Rattle.som_image_decode.specs.BlockLimits.{ArgsWithin, BlockWithin, ExprPartsWithin, ExprWithin, StatementsWithin, StmtPartsWithin, StmtWithin, TextWithin}

pub first_of : {A B : Type 0} → A × B → A
first_of p = p.0

pub rest_of : {A B : Type 0} → A × B → B
rest_of p = p.1

both_true : (a b : Bool) → a ≡ true → b ≡ true → (a && b) ≡ true
both_true a b e f = rw (e, f) refl

each_true : {A : Type 0} (P : A → Type 0) (f : A → Bool) → ((x : A) → P x → f x ≡ true) → (xs : List A) → AllByRecursion P xs → every (λ b. b) (map f xs) ≡ true
each_true P f one [] h = refl
each_true P f one (x ∷ xs) h = rw (one x h.0) (each_true P f one xs h.1)

-- ---- expressions, by those that can stand in them

module _ (Inner : Expr → Type 0) (one : (e : Expr) → Inner e → expr_counted e ≡ true) where
  args_in : (es : List Expr) → ArgsWithin Inner es → args_counted (map expr_counted es) ≡ true
  args_in es w =
      both_true (nat_le (length (map expr_counted es)) MAX_PARAMETERS) (every (λ e. e) (map expr_counted es))
      (ap (λ n. nat_le n MAX_PARAMETERS) (length-map es expr_counted) ∙ le-leb (length es) MAX_PARAMETERS (first_of w))
      (each_true Inner expr_counted one es (recursion_from_All Inner es (rest_of w)))

  call_in : (e : Expr) (es : List Expr) → Inner e × ArgsWithin Inner es → (expr_counted e && args_counted (map expr_counted es)) ≡ true
  call_in e es w = both_true (expr_counted e) (args_counted (map expr_counted es)) (one e (first_of w)) (args_in es (rest_of w))

  named_in : (name : List ℕ) (e : Expr) (es : List Expr) → TextWithin name × Inner e × ArgsWithin Inner es → (is_short name && (expr_counted e && args_counted (map expr_counted es))) ≡ true
  named_in name e es w =
      both_true (is_short name) (expr_counted e && args_counted (map expr_counted es))
      (le-leb (length name) MAX_TEXT w.0) (call_in e es (w.1, w.2))

  expr_layer : (x : Expr-F Expr) → ExprPartsWithin Inner x → expr_counted_step (map-Expr Expr Bool expr_counted x) ≡ true
  expr_layer (Expr-F.Long z) w = refl
  expr_layer (Expr-F.Str t) w = le-leb (length t) MAX_TEXT w
  expr_layer (Expr-F.Boolean b) w = refl
  expr_layer Expr-F.Nil w = refl
  expr_layer (Expr-F.Local n) w = refl
  expr_layer Expr-F.Me w = refl
  expr_layer (Expr-F.Variable n) w = refl
  expr_layer (Expr-F.Unary op e) w = one e w
  expr_layer (Expr-F.Binary op a b) w = both_true (expr_counted a) (expr_counted b) (one a (first_of w)) (one b (rest_of w))
  expr_layer (Expr-F.New k) w = refl
  expr_layer (Expr-F.Class k) w = refl
  expr_layer Expr-F.Manager w = refl
  expr_layer (Expr-F.Cast k e) w = one e w
  expr_layer (Expr-F.Isa k e) w = one e w
  expr_layer (Expr-F.Proxy k e) w = one e w
  expr_layer (Expr-F.OffsetCall r e es) w = call_in e es w
  expr_layer (Expr-F.Lookup t name e es) w = named_in name e es w
  expr_layer (Expr-F.Dispatch t name e es) w = named_in name e es w
  expr_layer (Expr-F.ParentCall n r es) w = args_in es (rest_of w)
  expr_layer (Expr-F.ParentsCall r es) w = args_in es w
  expr_layer (Expr-F.Host code a b) w = both_true (expr_counted a) (expr_counted b) (one a (first_of w)) (one b (rest_of w))

expr_in : (left : ℕ) (e : Expr) → ExprWithin left e → expr_counted e ≡ true
unfolding ExprWithin
expr_in zero e w = absurd w
expr_in (suc left) e w =
    ap expr_counted (sym (roll-out-Expr e)) ∙ fold-roll-Expr Bool expr_counted_step (out-Expr e)
    ∙ expr_layer (ExprWithin left) (expr_in left) (out-Expr e) w

-- ---- statements, by those that can stand in them

abbrev stmt_counted : Stmt → Bool
stmt_counted = fold-Stmt Bool Bool stmt_counted_step block_counted_step

module _ (Within : Stmt → Type 0) (each : (s : Stmt) → Within s → stmt_counted s ≡ true) where
  block_in : (b : Block) → StatementsWithin Within b → block_counted b ≡ true
  block_in b w =
      fold-roll-Block Bool Bool stmt_counted_step block_counted_step (record { statements = b.statements })
      ∙ both_true (nat_lt (length (map stmt_counted b.statements)) (2 ^ 32)) (every (λ s. s) (map stmt_counted b.statements))
      (ap (λ n. nat_lt n (2 ^ 32)) (length-map b.statements stmt_counted) ∙ lt-ltb (length b.statements) (2 ^ 32) (first_of w))
      (each_true Within stmt_counted each b.statements (recursion_from_All Within b.statements (rest_of w)))

  module _ (Inner : Expr → Type 0) (one : (e : Expr) → Inner e → expr_counted e ≡ true) where
    if_in : (e : Expr) (a b : Block) → Inner e × StatementsWithin Within a × StatementsWithin Within b → (expr_counted e && (block_counted a && block_counted b)) ≡ true
    if_in e a b w =
        both_true (expr_counted e) (block_counted a && block_counted b) (one e w.0)
        (both_true (block_counted a) (block_counted b) (block_in a w.1) (block_in b w.2))

    stmt_layer : (x : Stmt-F Stmt Block) → StmtPartsWithin Inner (StatementsWithin Within) x → stmt_counted_step (map-Stmt Stmt Block Bool Bool stmt_counted block_counted x) ≡ true
    stmt_layer (Stmt-F.Var t e) w = one e w
    stmt_layer (Stmt-F.SetLocal n e) w = one e (rest_of w)
    stmt_layer (Stmt-F.SetVariable n e) w = one e (rest_of w)
    stmt_layer (Stmt-F.If e a b) w = if_in e a b w
    stmt_layer (Stmt-F.While e b) w = both_true (expr_counted e) (block_counted b) (one e (first_of w)) (block_in b (rest_of w))
    stmt_layer Stmt-F.Return w = refl
    stmt_layer (Stmt-F.ReturnValue e) w = one e w
    stmt_layer (Stmt-F.Print e) w = one e w
    stmt_layer (Stmt-F.Free e) w = one e w
    stmt_layer (Stmt-F.Call e) w = one e w

stmt_in : (left : ℕ) (s : Stmt) → StmtWithin left s → stmt_counted s ≡ true
unfolding StmtWithin
stmt_in zero s w = absurd w
stmt_in (suc left) s w =
    ap stmt_counted (sym (roll-out-Stmt s)) ∙ fold-roll-Stmt Bool Bool stmt_counted_step block_counted_step (out-Stmt s)
    ∙ stmt_layer (StmtWithin left) (stmt_in left) (ExprWithin left) (expr_in left) (out-Stmt s) w

pub block_counts : (b : Block) → BlockWithin b → block_counted b ≡ true
block_counts b w = block_in (StmtWithin (levels_left 1)) (stmt_in (levels_left 1)) b w
