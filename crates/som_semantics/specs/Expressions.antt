-- What expressions mean.
use Rattle.std.specs.Prelude.{ℕ, Bool, true, false, List, [], ◌∷◌, Option, Some, None, if◌then◌else◌, Ok, Err, slice_get}
use Rattle.som_model.specs.declared.syntax.Expr.{Expr, fold-Expr}
use Rattle.som_model.specs.declared.syntax.Expr.TheOpen.{Expr-F}
use Rattle.som_model.specs.declared.key.ClassKey.{ClassKey}
use Rattle.som_model.specs.declared.key.ClassKey.TheVariants as keys
use Rattle.som_model.specs.declared.program.Fault.TheVariants as faults
use Rattle.som_model.specs.Kernel.{som_new}
use Rattle.som_semantics.specs.World.{World}
use Rattle.som_semantics.specs.State.{Value, Long, Boolean, Str, Nil, To, ClassObject, Manager, Heap, Place, Offset, Lookup, Used, Tried, is_live, receiver, variables_of}
use Rattle.som_semantics.specs.Runs.{Act}
use Rattle.som_semantics.specs.Acts.{◌>>=◌, ◌>>◌, pure, asked, tried, emit, take_unit, make}
use Rattle.som_semantics.specs.Values.{unary, binary, unary_op, binary_op, BinaryOp, And, Or, host, cast, isa}
use Rattle.som_semantics.specs.Calls.{Calls, Here, class_here, offset_call, named_call, dispatch_call, parent_call, parents_calls, parent_at}

-- the parameters and locals that are visible, in order
abbrev pub Frame : Type 0
Frame = List Value

-- what an expression does, given the parameters and locals
abbrev pub Evals : Type 0
Evals = Frame → Act Value

-- the value of a local
abbrev pub local_in : Option Value → Value
local_in (Some v) = v
local_in None = Nil

-- whether a value is TRUE
abbrev pub is_true : Value → Bool
is_true (Boolean b) = b
is_true _ = false

-- self's variable, where self is live
abbrev pub read : ClassKey → ℕ → Value → Heap → Tried Value
read k n (To r) h = if is_live h r then Ok (variables_of h r k n) else Err faults.Freed
read k n _ h = Err faults.Nil

-- the values of expressions, from left to right
abbrev pub each_of : List Evals → Frame → Act (List Value)
each_of [] frame = pure []
each_of (e ∷ es) frame = do
  v ← e frame
  vs ← each_of es frame
  pure (v ∷ vs)

-- `and` and `or` look at the right side only where it decides
abbrev pub either : BinaryOp → Value → Act Value → (Value → Act Value) → Act Value
either And x right both = if is_true x then right else pure (Boolean false)
either Or x right both = if is_true x then pure (Boolean true) else right
either op x right both = right >>= both

-- `class C`: C is used, and its class object is the value
abbrev pub class_object : ClassKey → Act Value
class_object k = emit (Used k) >> pure (To (ClassObject k))

-- `new C`: C is used; the offset call somNew on its class object, and then `as C`
abbrev pub new_on : World → Calls → Place → ClassKey → Act Value
new_on w call at k = do
  emit (Used k)
  v ← offset_call w call at Offset som_new (To (ClassObject k)) []
  asked at (λ h. cast w k h v)

-- `proxy(C, e)` with this target: it is tested, a unit is taken, and the proxy is made, whose class is used
abbrev pub proxy_on : World → Place → ClassKey → Value → Act Value
proxy_on w at k v = do
  asked at (λ h. receiver h v)
  take_unit
  r ← make w (keys.Proxy k) v
  emit (Used (keys.Proxy k))
  pure (To r)

module _ (w : World) (call : Calls) (here : Here) where
  -- an expression, by what its parts do
  abbrev pub expr_step : Expr-F Evals → Evals
  expr_step (Expr-F.Long z) frame = pure (Long z)
  expr_step (Expr-F.Str t) frame = pure (Str t)
  expr_step (Expr-F.Boolean b) frame = pure (Boolean b)
  expr_step Expr-F.Nil frame = pure Nil
  expr_step (Expr-F.Local n) frame = pure (local_in (slice_get frame n))
  expr_step Expr-F.Me frame = pure here.me
  expr_step (Expr-F.Variable n) frame = asked here.place (read (class_here here) n here.me)
  expr_step (Expr-F.Unary op e) frame = do
    v ← e frame
    tried here.place (unary (unary_op op) v)
  expr_step (Expr-F.Binary op a b) frame = do
    x ← a frame
    either (binary_op op) x (b frame) (λ y. tried here.place (binary (binary_op op) x y))
  expr_step (Expr-F.New k) frame = new_on w call here.place k
  expr_step (Expr-F.Class k) frame = class_object k
  expr_step Expr-F.Manager frame = pure (To Manager)
  expr_step (Expr-F.Cast k e) frame = do
    v ← e frame
    asked here.place (λ h. cast w k h v)
  expr_step (Expr-F.Isa k e) frame = do
    v ← e frame
    asked here.place (λ h. isa w k h v)
  expr_step (Expr-F.Proxy k e) frame = do
    v ← e frame
    proxy_on w here.place k v
  expr_step (Expr-F.OffsetCall method e args) frame = do
    on ← e frame
    vs ← each_of args frame
    offset_call w call here.place Offset method on vs
  expr_step (Expr-F.Lookup wanted name e args) frame = do
    on ← e frame
    vs ← each_of args frame
    named_call w call here.place Lookup wanted name on vs
  expr_step (Expr-F.Dispatch wanted name e args) frame = do
    on ← e frame
    vs ← each_of args frame
    dispatch_call w call here.place wanted name on vs
  expr_step (Expr-F.ParentCall n method args) frame = do
    vs ← each_of args frame
    parent_call w call here (parent_at (w.parents (class_here here)) n) method vs
  expr_step (Expr-F.ParentsCall method args) frame = do
    vs ← each_of args frame
    parents_calls w call here (w.parents (class_here here)) method vs
  expr_step (Expr-F.Host code a b) frame = do
    x ← a frame
    y ← b frame
    pure (host code x y)

  -- what an expression does
  abbrev pub eval : Expr → Evals
  eval = fold-Expr Evals expr_step
