-- Laid code leads only to places in it, and back only to a turn.
use Rattle.std.proofs.Common.{◌≡◌, ◌<◌, ◌+◌, ◌-◌, ℕ, zero, suc, List, [], ◌∷◌, ◌++◌, map, length, slice_get, Some, Bool, if◌then◌else◌, true, false, nat_lt, refl, sym, ap, ◌∙◌, subst, arith, length-append}
use Rattle.som_model.specs.declared.syntax.Expr.{Expr, ind-Expr, fold-roll-Expr, map-Expr}
use Rattle.som_model.specs.declared.syntax.Expr.TheOpen.{Expr-F}
use Rattle.som_model.specs.declared.syntax.Stmt.{Stmt, roll-Stmt, fold-roll-Stmt, map-Stmt}
use Rattle.som_model.specs.declared.syntax.Stmt.TheOpen.{Stmt-F, Block-F}
use Rattle.som_model.specs.declared.syntax.Block.{Block, ind-Block, fold-roll-Block, map-Block}
use Rattle.som_model.specs.Kernel.{som_free}
use Rattle.som_semantics.specs.Values.{BinaryOp, And, Or, binary_op}
use Rattle.som_code.specs.declared.instruction.Constant.TheVariants as constants
use Rattle.som_code.specs.declared.instruction.Instruction.{Instruction}
use Rattle.som_code.specs.declared.instruction.Instruction.TheVariants as ops
use Rattle.som_code.specs.Sound.{is_turn, is_return, is_led, IsSound}
use Rattle.som_code.specs.Laid.{Lays, Bodies, Laid, nothing, just, ◌then◌, lay_each, lay_and, lay_or, lay_right, expr_step as lay_expr_step, lay_expr, lay_all, lay_choice, lay_loop, set_local, stmt_step as lay_step, block_step as lay_block_step, lay_stmt, lay_block, lay_body}
use Rattle.som_code.proofs.Bools.{and_true, or_left, or_right, lt_true}
use Rattle.som_code.proofs.Sits.{Sits, sits_front, sits_back, sits_all}

module _ (code : List Instruction) where
  -- these instructions, from a place on, lead well
  abbrev AreLed : ℕ → List Instruction → Type 0
  AreLed a [] = Unit {0}
  AreLed a (i ∷ is) = (is_led code a i ≡ true) × AreLed (a + 1) is

  led_both : (a : ℕ) (x y : List Instruction) → AreLed a x → AreLed (a + length x) y → AreLed a (x ++ y)
  led_both a [] y h g = let e : a + 0 ≡ a = omega arith in subst (λ n. AreLed n y) e g
  led_both a (i ∷ x) y h g = let e : a + suc (length x) ≡ a + 1 + length x = omega arith in (h.0, led_both (a + 1) x y h.1 (subst (λ n. AreLed n y) e g))

  -- a piece of code that stands before other code leads well
  record Well (lay : Lays) : Type 0 where
    by : (a : ℕ) → Sits code a (lay a) → a + length (lay a) < length code → AreLed a (lay a)

  -- an instruction after which the next one follows
  well_one : (i : Instruction) → ((p : ℕ) → is_led code p i ≡ nat_lt (p + 1) (length code)) → Well (just i)
  well_one i is = record { by = λ a h lt. (is a ∙ lt_true (a + 1) (length code) lt, tt) }

  well_end : (i : Instruction) → ((p : ℕ) → is_led code p i ≡ true) → Well (just i)
  well_end i is = record { by = λ a h lt. (is a, tt) }

  well_then : (f g : Lays) → Well f → Well g → Well (f then g)
  well_then f g p q = record {
    by = λ a h lt.
        let b = a + length (f a) in
        let l : length (f a ++ g b) ≡ length (f a) + length (g b) = length-append (f a) (g b) in
        let s : a + length (f a) < length code = omega (arith, l, lt) in
        let t : b + length (g b) < length code = omega (arith, l, lt) in
        led_both a (f a) (g b) (p.by a (sits_front code a (f a) (g b) h) s) (q.by b (sits_back code a (f a) (g b) h) t);
  }

  led_jump : (p k : ℕ) → k < length code → p < k → is_led code p (ops.Jump k) ≡ true
  led_jump p k m n = and_true _ _ (lt_true k (length code) m) (or_left _ _ (lt_true p k n))

  led_back : (p k : ℕ) → k < length code → slice_get code k ≡ Some ops.Turn → is_led code p (ops.Jump k) ≡ true
  led_back p k m h = and_true _ _ (lt_true k (length code) m) (or_right (nat_lt p k) (is_turn (slice_get code k)) (ap is_turn h))

  led_unless : (p k : ℕ) → k < length code → p < k → p + 1 < length code → is_led code p (ops.Unless k) ≡ true
  led_unless p k m n l = and_true _ _ (lt_true k (length code) m) (and_true _ _ (lt_true p k n) (lt_true (p + 1) (length code) l))

  well_and : (g : Lays) → Well g → Well (lay_and g)
  well_and g p = record {
    by = λ b h lt.
        let c = b + 1 + length (g (b + 1)) in
        let tail : List Instruction = ops.Jump (c + 2) ∷ ops.Push (constants.Boolean false) ∷ [] in
        let l : length (g (b + 1) ++ tail) ≡ length (g (b + 1)) + 2 = length-append (g (b + 1)) tail in
        let end : c + 2 < length code = omega (arith, l, lt) in (
          led_unless b (c + 1) (omega (arith, end)) (omega arith) (omega (arith, end)),
          led_both (b + 1) (g (b + 1)) tail (p.by (b + 1) (sits_front code (b + 1) (g (b + 1)) tail h.1) (omega (arith, end)))
              (led_jump c (c + 2) end (omega arith), (lt_true (c + 1 + 1) (length code) (omega (arith, end)), tt)),
        );
  }

  well_or : (g : Lays) → Well g → Well (lay_or g)
  well_or g p = record {
    by = λ b h lt.
        let end : b + 3 + length (g (b + 3)) < length code = omega (arith, lt) in
        let n : b + 1 + 1 + 1 ≡ b + 3 = omega arith in (
          led_unless b (b + 3) (omega (arith, end)) (omega arith) (omega (arith, end)),
          (
            lt_true (b + 1 + 1) (length code) (omega (arith, end)),
            (
              led_jump (b + 1 + 1) (b + 3 + length (g (b + 3))) end (omega arith),
              subst (λ k. AreLed k (g (b + 3))) (sym n) (p.by (b + 3) (subst (λ k. Sits code k (g (b + 3))) n h.1.1.1) end),
            ),
          ),
        );
  }

  well_right : (o : BinaryOp) (op : ℕ) (g : Lays) → Well g → Well (lay_right o op g)
  well_right And op g p = well_and g p
  well_right Or op g p = well_or g p
  well_right _ op g p = well_then g (just (ops.Binary op)) p (well_one (ops.Binary op) (λ p. refl))

  well_nothing : Well nothing
  well_nothing = record { by = λ a h lt. tt }

  abbrev GoodExpr : Expr → Type 0
  GoodExpr e = Well (lay_expr e)

  abbrev exprs : List ((e : Expr) × GoodExpr e) → List Expr
  exprs = map (λ e. e.0)

  well_each : (es : List ((e : Expr) × GoodExpr e)) → Well (lay_each (map lay_expr (exprs es)))
  well_each [] = well_nothing
  well_each (e ∷ es) = well_then (lay_expr e.0) (lay_each (map lay_expr (exprs es))) e.1 (well_each es)

  well_last : (f : Lays) (i : Instruction) → Well f → ((p : ℕ) → is_led code p i ≡ nat_lt (p + 1) (length code)) → Well (f then just i)
  well_last f i p is = well_then f (just i) p (well_one i is)

  expr_layer : (y : Expr-F ((e : Expr) × GoodExpr e)) → Well (lay_expr_step (map-Expr _ _ lay_expr (map-Expr _ _ (λ e. e.0) y)))
  expr_layer (Expr-F.Long z) = well_one (ops.Push (constants.Long z)) (λ p. refl)
  expr_layer (Expr-F.Str t) = well_one (ops.Push (constants.Str t)) (λ p. refl)
  expr_layer (Expr-F.Boolean b) = well_one (ops.Push (constants.Boolean b)) (λ p. refl)
  expr_layer Expr-F.Nil = well_one (ops.Push constants.Nil) (λ p. refl)
  expr_layer (Expr-F.Local n) = well_one (ops.Get n) (λ p. refl)
  expr_layer Expr-F.Me = well_one ops.Me (λ p. refl)
  expr_layer (Expr-F.Variable n) = well_one (ops.GetVariable n) (λ p. refl)
  expr_layer (Expr-F.Unary op e) = well_last (lay_expr e.0) (ops.Unary op) e.1 (λ p. refl)
  expr_layer (Expr-F.Binary op a b) = well_then (lay_expr a.0) (lay_right (binary_op op) op (lay_expr b.0)) a.1 (well_right (binary_op op) op (lay_expr b.0) b.1)
  expr_layer (Expr-F.New k) = well_one (ops.New k) (λ p. refl)
  expr_layer (Expr-F.Class k) = well_one (ops.Class k) (λ p. refl)
  expr_layer Expr-F.Manager = well_one ops.Manager (λ p. refl)
  expr_layer (Expr-F.Cast k e) = well_last (lay_expr e.0) (ops.Cast k) e.1 (λ p. refl)
  expr_layer (Expr-F.Isa k e) = well_last (lay_expr e.0) (ops.Isa k) e.1 (λ p. refl)
  expr_layer (Expr-F.Proxy k e) = well_last (lay_expr e.0) (ops.Proxy k) e.1 (λ p. refl)
  expr_layer (Expr-F.OffsetCall r e es) = well_then (lay_expr e.0) _ e.1 (well_last (lay_each (map lay_expr (exprs es))) (ops.OffsetCall r (length (map lay_expr (exprs es)))) (well_each es) (λ p. refl))
  expr_layer (Expr-F.Lookup wanted name e es) = well_then (lay_expr e.0) _ e.1 (well_last (lay_each (map lay_expr (exprs es))) (ops.Lookup wanted name (length (map lay_expr (exprs es)))) (well_each es) (λ p. refl))
  expr_layer (Expr-F.Dispatch wanted name e es) = well_then (lay_expr e.0) _ e.1 (well_last (lay_each (map lay_expr (exprs es))) (ops.Dispatch wanted name (length (map lay_expr (exprs es)))) (well_each es) (λ p. refl))
  expr_layer (Expr-F.ParentCall n r es) = well_last (lay_each (map lay_expr (exprs es))) (ops.ParentCall n r (length (map lay_expr (exprs es)))) (well_each es) (λ p. refl)
  expr_layer (Expr-F.ParentsCall r es) = well_last (lay_each (map lay_expr (exprs es))) (ops.ParentsCall r (length (map lay_expr (exprs es)))) (well_each es) (λ p. refl)
  expr_layer (Expr-F.Host c a b) = well_then (lay_expr a.0) (lay_expr b.0 then just (ops.Host c)) a.1 (well_last (lay_expr b.0) (ops.Host c) b.1 (λ p. refl))

  expr_well : (e : Expr) → GoodExpr e
  expr_well = ind-Expr GoodExpr (λ x y is. subst Well (sym (fold-roll-Expr Lays lay_expr_step x)) (subst (λ z. Well (lay_expr_step (map-Expr Expr Lays lay_expr z))) is (expr_layer y)))

  -- ---- statements

  record WellLaid (lays : Bodies) : Type 0 where
    by : (d : ℕ) → Well (lays d)

  abbrev GoodStmt : Stmt → Type 0
  GoodStmt x = WellLaid (lay_stmt x).lays

  abbrev GoodBlock : Block → Type 0
  GoodBlock b = WellLaid (lay_block b)

  well_choice : (f g : Lays) → Well f → Well g → Well (lay_choice f g)
  well_choice f g p q = record {
    by = λ b h lt.
        let m = b + 1 + length (f (b + 1)) in
        let end = m + 1 + length (g (m + 1)) in
        let tail : List Instruction = ops.Jump end ∷ g (m + 1) in
        let l : length (f (b + 1) ++ tail) ≡ length (f (b + 1)) + suc (length (g (m + 1))) = length-append (f (b + 1)) tail in
        let fits : end < length code = omega (arith, l, lt) in
        let back : Sits code m tail = sits_back code (b + 1) (f (b + 1)) tail h.1 in (
          led_unless b (m + 1) (omega (arith, fits)) (omega arith) (omega (arith, fits)),
          led_both (b + 1) (f (b + 1)) tail (p.by (b + 1) (sits_front code (b + 1) (f (b + 1)) tail h.1) (omega (arith, fits)))
              (led_jump m end fits (omega arith), q.by (m + 1) back.1 fits),
        );
  }

  well_loop : (c f : Lays) → Well c → Well f → Well (lay_loop c f)
  well_loop c f p q = record {
    by = λ a h lt.
        let m = a + 2 + length (f (a + 2)) in
        let b = m + length (c m) in
        let end : List Instruction = ops.Unless (b + 2) ∷ ops.Jump (a + 1) ∷ [] in
        let l : length (f (a + 2) ++ (c m ++ end)) ≡ length (f (a + 2)) + length (c m ++ end) = length-append (f (a + 2)) (c m ++ end) in
        let l' : length (c m ++ end) ≡ length (c m) + 2 = length-append (c m) end in
        let fits : b + 2 < length code = omega (arith, l, l', lt) in
        let n : a + 1 + 1 ≡ a + 2 = omega arith in
        let body : Sits code (a + 2) (f (a + 2) ++ (c m ++ end)) = subst (λ (z : ℕ). Sits code z (f (a + 2) ++ (c m ++ end))) n h.1.1 in
        let cond : Sits code m (c m ++ end) = sits_back code (a + 2) (f (a + 2)) (c m ++ end) body in (
          led_jump a m (omega (arith, fits)) (omega arith),
          (
            lt_true (a + 1 + 1) (length code) (omega (arith, fits)),
            subst (λ (z : ℕ). AreLed z (f (a + 2) ++ (c m ++ end))) (sym n)
                (led_both (a + 2) (f (a + 2)) (c m ++ end) (q.by (a + 2) (sits_front code (a + 2) (f (a + 2)) (c m ++ end) body) (omega (arith, fits)))
                (led_both m (c m) end (p.by m (sits_front code m (c m) end cond) (omega (arith, fits)))
                (led_unless b (b + 2) fits (omega arith) (omega (arith, fits)), (led_back (b + 1) (a + 1) (omega (arith, fits)) h.1.0, tt)))),
          ),
        );
  }

  set_led : (n p : ℕ) (b : Bool) → is_led code p (if b then ops.Set n else ops.Drop) ≡ nat_lt (p + 1) (length code)
  set_led n p true = refl
  set_led n p false = refl

  abbrev stmts : List ((x : Stmt) × GoodStmt x) → List Stmt
  stmts = map (λ e. e.0)

  all_well : (xs : List ((x : Stmt) × GoodStmt x)) (d : ℕ) → Well (lay_all (map lay_stmt (stmts xs)) d)
  all_well [] d = well_nothing
  all_well (x ∷ xs) d = well_then ((lay_stmt x.0).lays d) (lay_all (map lay_stmt (stmts xs)) (d + (lay_stmt x.0).adds)) (x.1.by d) (all_well xs (d + (lay_stmt x.0).adds))

  layer : (y : Stmt-F ((x : Stmt) × GoodStmt x) ((b : Block) × GoodBlock b)) → WellLaid (lay_step (map-Stmt _ _ _ _ lay_stmt lay_block (map-Stmt _ _ _ _ (λ e. e.0) (λ e. e.0) y))).lays
  layer (Stmt-F.Var kind e) = record { by = λ d. well_last (lay_expr e) (ops.Set d) (expr_well e) (λ p. refl) }
  layer (Stmt-F.SetLocal n e) = record { by = λ d. well_last (lay_expr e) (set_local n d) (expr_well e) (λ p. set_led n p (nat_lt n d)) }
  layer (Stmt-F.SetVariable n e) = record { by = λ d. well_last (lay_expr e) (ops.SetVariable n) (expr_well e) (λ p. refl) }
  layer (Stmt-F.If c x y) = record { by = λ d. well_then (lay_expr c) (lay_choice (lay_block x.0 d) (lay_block y.0 d)) (expr_well c) (well_choice (lay_block x.0 d) (lay_block y.0 d) (x.1.by d) (y.1.by d)) }
  layer (Stmt-F.While c x) = record { by = λ d. well_loop (lay_expr c) (lay_block x.0 d) (expr_well c) (x.1.by d) }
  layer Stmt-F.Return = record { by = λ d. well_end ops.Return (λ p. refl) }
  layer (Stmt-F.ReturnValue e) = record { by = λ d. well_then (lay_expr e) (just ops.ReturnValue) (expr_well e) (well_end ops.ReturnValue (λ p. refl)) }
  layer (Stmt-F.Print e) = record { by = λ d. well_last (lay_expr e) ops.Print (expr_well e) (λ p. refl) }
  layer (Stmt-F.Free e) = record { by = λ d. well_then (lay_expr e) (just (ops.OffsetCall som_free 0) then just ops.Drop) (expr_well e) (well_last (just (ops.OffsetCall som_free 0)) ops.Drop (well_one (ops.OffsetCall som_free 0) (λ p. refl)) (λ p. refl)) }
  layer (Stmt-F.Call e) = record { by = λ d. well_last (lay_expr e) ops.Drop (expr_well e) (λ p. refl) }

  block_layer : (y : Block-F ((x : Stmt) × GoodStmt x) ((b : Block) × GoodBlock b)) → WellLaid (lay_block_step (map-Block _ _ _ _ lay_stmt lay_block (map-Block _ _ _ _ (λ e. e.0) (λ e. e.0) y)))
  block_layer y = record { by = λ d. well_last (lay_all (map lay_stmt (stmts y.statements)) d) (ops.Cut d) (all_well y.statements d) (λ p. refl) }

  from_stmt : (x : Stmt-F Stmt Block) (y : Stmt-F ((s : Stmt) × GoodStmt s) ((b : Block) × GoodBlock b)) → map-Stmt _ _ _ _ (λ e. e.0) (λ e. e.0) y ≡ x → GoodStmt (roll-Stmt x)
  from_stmt x y is = subst (λ (l : Laid). WellLaid l.lays) (sym (fold-roll-Stmt Laid Bodies lay_step lay_block_step x)) (subst (λ z. WellLaid (lay_step (map-Stmt Stmt Block Laid Bodies lay_stmt lay_block z)).lays) is (layer y))

  block_well : (b : Block) → GoodBlock b
  block_well = ind-Block GoodStmt GoodBlock from_stmt
      (λ x y is. subst (λ (l : Bodies). WellLaid l) (sym (fold-roll-Block Laid Bodies lay_step lay_block_step x)) (subst (λ z. WellLaid (lay_block_step (map-Block Stmt Block Laid Bodies lay_stmt lay_block z))) is (block_layer y)))

  led_at : (a p : ℕ) (x : List Instruction) (i : Instruction) → AreLed a x → slice_get x p ≡ Some i → is_led code (a + p) i ≡ true
  led_at a p [] i s h = absurd cc
  led_at a zero (j ∷ x) i s h = let e : j ≡ i = cc in let n : a ≡ a + 0 = omega arith in subst (λ k. is_led code k i ≡ true) n (subst (λ k. is_led code a k ≡ true) e s.0)
  led_at a (suc p) (j ∷ x) i s h = let n : a + 1 + p ≡ a + suc p = omega arith in subst (λ k. is_led code k i ≡ true) n (led_at (a + 1) p x i s.1 h)

-- laid code is sound
pub laid_sound : (b : Block) (params : ℕ) → IsSound (lay_body b params)
laid_sound b params =
    let code : List Instruction = lay_body b params in
    let x : List Instruction = lay_block b params 0 in
    let all : Sits code 0 (x ++ ops.Return ∷ []) = sits_all code in
    let l : length (x ++ ops.Return ∷ []) ≡ length x + 1 = length-append x (ops.Return ∷ []) in
    let last : length code - 1 ≡ 0 + length x = omega (arith, l) in
    let fits : 0 + length x < length code = omega (arith, l) in
    record {
      ends = ap is_return (ap (slice_get code) last ∙ (sits_back code 0 x (ops.Return ∷ []) all).0);
      led = λ p i h. let n : 0 + p ≡ p = omega arith in
          subst (λ k. is_led code k i ≡ true) n
          (led_at code 0 p code i (led_both code 0 x (ops.Return ∷ []) (((block_well code b).by params).by 0 (sits_front code 0 x (ops.Return ∷ []) all) fits) (refl, tt)) h);
    }
