-- The code of an expression puts its value on the stack.
use Rattle.std.proofs.Common.{◌≡◌, ℕ, List, [], ◌∷◌, ◌++◌, map, length, reverse, slice_get, refl, sym, subst}
use Rattle.som_model.specs.declared.syntax.Expr.{Expr, ind-Expr, roll-Expr, fold-roll-Expr, map-Expr}
use Rattle.som_model.specs.declared.syntax.Expr.TheOpen.{Expr-F}
use Rattle.som_semantics.specs.World.{World}
use Rattle.som_semantics.specs.State.{Value, Long, Boolean, Str, Nil, To, Manager, Offset, Lookup}
use Rattle.som_semantics.specs.Runs.{Act}
use Rattle.som_semantics.specs.Acts.{◌>>=◌, pure, tried, asked}
use Rattle.som_semantics.specs.Values.{BinaryOp, And, Or, unary, unary_op, binary, binary_op, host, cast, isa}
use Rattle.som_semantics.specs.Calls.{Calls, Here, class_here, parent_at, offset_call, named_call, dispatch_call, parent_call, parents_calls}
use Rattle.som_semantics.specs.Expressions.{Evals, local_in, read, each_of, either, class_object, new_on, proxy_on, expr_step as eval_step, eval}
use Rattle.som_code.specs.declared.instruction.Constant.TheVariants as constants
use Rattle.som_code.specs.declared.instruction.Instruction.{Instruction}
use Rattle.som_code.specs.declared.instruction.Instruction.TheVariants as ops
use Rattle.som_code.specs.Laid.{Lays, just, ◌then◌, lay_each, lay_right, expr_step as lay_step, lay_expr}
use Rattle.som_code.proofs.Pieces.{Puts, puts_one, puts_then, puts_and, puts_or, EachPuts, puts_each, puts_call, puts_self_call}

module _ (w : World) (here : Here) (zero_value : Value) (call : Calls) (code : List Instruction) where
  abbrev P : List Value → Evals → Lays → Type 0
  P = Puts w here zero_value call code

  abbrev ev : Expr → Evals
  ev = eval w call here

  abbrev pub Good : Expr → Type 0
  Good e = P [] (ev e) (lay_expr e)

  -- after one operand, one instruction
  unary_puts : (k : Value → Act Value) (i : Instruction) (m : Evals) (f : Lays) → P [] m f → ((v : Value) → P (v ∷ []) (λ fr. k v) (just i)) → P [] (λ fr. m fr >>= k) (f then just i)
  unary_puts k i m f p q = puts_then w here zero_value call code [] m (λ v fr. k v) f (just i) p q

  -- the right side of an operator
  right_puts : (o : BinaryOp) (op : ℕ) (x : Value) (m : Evals) (g : Lays) → P [] m g
      → P (x ∷ []) (λ fr. either o x (m fr) (λ y. tried here.place (binary (binary_op op) x y))) (lay_right o op g)
  right_puts And op x m g p = puts_and w here zero_value call code x m g p
  right_puts Or op x m g p = puts_or w here zero_value call code x m g p
  right_puts _ op x m g p = puts_then w here zero_value call code (x ∷ []) m (λ y fr. tried here.place (binary (binary_op op) x y)) g (just (ops.Binary op)) p
      (λ y. puts_one w here zero_value call code (y ∷ x ∷ []) (λ fr. tried here.place (binary (binary_op op) x y)) (ops.Binary op) (λ a st fr s. refl))

  abbrev first : List ((e : Expr) × Good e) → List Expr
  first = map (λ e. e.0)

  each_good : (es : List ((e : Expr) × Good e)) → EachPuts w here zero_value call code (map ev (first es)) (map lay_expr (first es))
  each_good [] = tt
  each_good (e ∷ es) = (e.1, each_good es)

  -- a receiver, arguments, and the call
  call_puts : (f : Value → List Value → Act Value) (i : ℕ → Instruction) (e : (x : Expr) × Good x) (es : List ((x : Expr) × Good x))
      → ((n : ℕ) (on : Value) (vs : List Value) → n ≡ length vs → P (reverse vs ++ on ∷ []) (λ fr. f on vs) (just (i n)))
      → P [] (λ fr. ev e.0 fr >>= λ on. each_of (map ev (first es)) fr >>= λ vs. f on vs) (lay_expr e.0 then (lay_each (map lay_expr (first es)) then just (i (length (map lay_expr (first es))))))
  call_puts f i e es h =
      let fs : List Lays = map lay_expr (first es) in
      puts_then w here zero_value call code [] (ev e.0) (λ on fr. each_of (map ev (first es)) fr >>= λ vs. f on vs) (lay_expr e.0) (lay_each fs then just (i (length fs))) e.1
      (λ on. puts_each w here zero_value call code (map ev (first es)) fs (each_good es) (on ∷ []) (λ vs fr. f on vs) (just (i (length fs))) (λ vs n. h (length fs) on vs n))

  -- arguments, and the call on self
  self_call_puts : (f : List Value → Act Value) (i : ℕ → Instruction) (es : List ((x : Expr) × Good x))
      → ((n : ℕ) (vs : List Value) → n ≡ length vs → P (reverse vs ++ []) (λ fr. f vs) (just (i n)))
      → P [] (λ fr. each_of (map ev (first es)) fr >>= λ vs. f vs) (lay_each (map lay_expr (first es)) then just (i (length (map lay_expr (first es)))))
  self_call_puts f i es h =
      let fs : List Lays = map lay_expr (first es) in
      puts_each w here zero_value call code (map ev (first es)) fs (each_good es) [] (λ vs fr. f vs) (just (i (length fs))) (λ vs n. h (length fs) vs n)

  layer : (y : Expr-F ((e : Expr) × Good e)) → P [] (eval_step w call here (map-Expr _ _ ev (map-Expr _ _ (λ e. e.0) y))) (lay_step (map-Expr _ _ lay_expr (map-Expr _ _ (λ e. e.0) y)))
  layer (Expr-F.Long z) = puts_one w here zero_value call code [] (λ fr. pure (Long z)) (ops.Push (constants.Long z)) (λ a st fr s. refl)
  layer (Expr-F.Str t) = puts_one w here zero_value call code [] (λ fr. pure (Str t)) (ops.Push (constants.Str t)) (λ a st fr s. refl)
  layer (Expr-F.Boolean b) = puts_one w here zero_value call code [] (λ fr. pure (Boolean b)) (ops.Push (constants.Boolean b)) (λ a st fr s. refl)
  layer Expr-F.Nil = puts_one w here zero_value call code [] (λ fr. pure Nil) (ops.Push constants.Nil) (λ a st fr s. refl)
  layer (Expr-F.Local n) = puts_one w here zero_value call code [] (λ fr. pure (local_in (slice_get fr n))) (ops.Get n) (λ a st fr s. refl)
  layer Expr-F.Me = puts_one w here zero_value call code [] (λ fr. pure here.me) ops.Me (λ a st fr s. refl)
  layer (Expr-F.Variable n) = puts_one w here zero_value call code [] (λ fr. asked here.place (read (class_here here) n here.me)) (ops.GetVariable n) (λ a st fr s. refl)
  layer (Expr-F.Unary op e) = unary_puts (λ v. tried here.place (unary (unary_op op) v)) (ops.Unary op) (ev e.0) (lay_expr e.0) e.1
      (λ v. puts_one w here zero_value call code (v ∷ []) (λ fr. tried here.place (unary (unary_op op) v)) (ops.Unary op) (λ a st fr s. refl))
  layer (Expr-F.Binary op a b) = puts_then w here zero_value call code [] (ev a.0) (λ x fr. either (binary_op op) x (ev b.0 fr) (λ y. tried here.place (binary (binary_op op) x y))) (lay_expr a.0) (lay_right (binary_op op) op (lay_expr b.0)) a.1
      (λ x. right_puts (binary_op op) op x (ev b.0) (lay_expr b.0) b.1)
  layer (Expr-F.New k) = puts_one w here zero_value call code [] (λ fr. new_on w call here.place k) (ops.New k) (λ a st fr s. refl)
  layer (Expr-F.Class k) = puts_one w here zero_value call code [] (λ fr. class_object k) (ops.Class k) (λ a st fr s. refl)
  layer Expr-F.Manager = puts_one w here zero_value call code [] (λ fr. pure (To Manager)) ops.Manager (λ a st fr s. refl)
  layer (Expr-F.Cast k e) = unary_puts (λ v. asked here.place (λ h. cast w k h v)) (ops.Cast k) (ev e.0) (lay_expr e.0) e.1
      (λ v. puts_one w here zero_value call code (v ∷ []) (λ fr. asked here.place (λ h. cast w k h v)) (ops.Cast k) (λ a st fr s. refl))
  layer (Expr-F.Isa k e) = unary_puts (λ v. asked here.place (λ h. isa w k h v)) (ops.Isa k) (ev e.0) (lay_expr e.0) e.1
      (λ v. puts_one w here zero_value call code (v ∷ []) (λ fr. asked here.place (λ h. isa w k h v)) (ops.Isa k) (λ a st fr s. refl))
  layer (Expr-F.Proxy k e) = unary_puts (λ v. proxy_on w here.place k v) (ops.Proxy k) (ev e.0) (lay_expr e.0) e.1
      (λ v. puts_one w here zero_value call code (v ∷ []) (λ fr. proxy_on w here.place k v) (ops.Proxy k) (λ a st fr s. refl))
  layer (Expr-F.OffsetCall r e es) = call_puts (λ on vs. offset_call w call here.place Offset r on vs) (λ n. ops.OffsetCall r n) e es
      (λ n on vs h. puts_call w here zero_value call code (λ on vs. offset_call w call here.place Offset r on vs) n (ops.OffsetCall r n) (λ a st fr s. refl) on vs h)
  layer (Expr-F.Lookup wanted name e es) = call_puts (λ on vs. named_call w call here.place Lookup wanted name on vs) (λ n. ops.Lookup wanted name n) e es
      (λ n on vs h. puts_call w here zero_value call code (λ on vs. named_call w call here.place Lookup wanted name on vs) n (ops.Lookup wanted name n) (λ a st fr s. refl) on vs h)
  layer (Expr-F.Dispatch wanted name e es) = call_puts (λ on vs. dispatch_call w call here.place wanted name on vs) (λ n. ops.Dispatch wanted name n) e es
      (λ n on vs h. puts_call w here zero_value call code (λ on vs. dispatch_call w call here.place wanted name on vs) n (ops.Dispatch wanted name n) (λ a st fr s. refl) on vs h)
  layer (Expr-F.ParentCall p r es) = self_call_puts (λ vs. parent_call w call here (parent_at (w.parents (class_here here)) p) r vs) (λ n. ops.ParentCall p r n) es
      (λ n vs h. puts_self_call w here zero_value call code (λ vs. parent_call w call here (parent_at (w.parents (class_here here)) p) r vs) n (ops.ParentCall p r n) (λ a st fr s. refl) vs h)
  layer (Expr-F.ParentsCall r es) = self_call_puts (λ vs. parents_calls w call here (w.parents (class_here here)) r vs) (λ n. ops.ParentsCall r n) es
      (λ n vs h. puts_self_call w here zero_value call code (λ vs. parents_calls w call here (w.parents (class_here here)) r vs) n (ops.ParentsCall r n) (λ a st fr s. refl) vs h)
  layer (Expr-F.Host c a b) = puts_then w here zero_value call code [] (ev a.0) (λ x fr. ev b.0 fr >>= λ y. pure (host c x y)) (lay_expr a.0) (lay_expr b.0 then just (ops.Host c)) a.1
      (λ x. puts_then w here zero_value call code (x ∷ []) (ev b.0) (λ y fr. pure (host c x y)) (lay_expr b.0) (just (ops.Host c)) b.1
      (λ y. puts_one w here zero_value call code (y ∷ x ∷ []) (λ fr. pure (host c x y)) (ops.Host c) (λ a st fr s. refl)))

  layer_at : (x : Expr-F Expr) → P [] (eval_step w call here (map-Expr Expr Evals ev x)) (lay_step (map-Expr Expr Lays lay_expr x)) → Good (roll-Expr x)
  layer_at x h = subst (λ (r : Evals). P [] r (lay_expr (roll-Expr x))) (sym (fold-roll-Expr Evals (eval_step w call here) x))
      (subst (λ (l : Lays). P [] (eval_step w call here (map-Expr Expr Evals ev x)) l) (sym (fold-roll-Expr Lays lay_step x)) h)

  pub expr_good : (e : Expr) → Good e
  expr_good = ind-Expr Good (λ x y is. layer_at x (subst (λ z. P [] (eval_step w call here (map-Expr Expr Evals ev z)) (lay_step (map-Expr Expr Lays lay_expr z))) is (layer y)))
