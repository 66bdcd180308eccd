-- A run makes no more objects than it takes units: each object is paid by the unit of the body or of the proxy that makes it.
use Rattle.std.proofs.Common.{◌≡◌, ℕ, zero, suc, ◌+◌, ◌≤◌, Bool, true, false, if◌then◌else◌, List, [], ◌∷◌, ◌++◌, map, length, length-append, Option, Some, None, Ok, Err, reverse, refl, sym, ap, subst, arith}
use Rattle.som_model.specs.declared.key.ClassKey.{ClassKey}
use Rattle.som_model.specs.declared.key.MethodRef.{MethodRef}
use Rattle.som_model.specs.declared.key.ValueType.{ValueType}
use Rattle.som_model.specs.declared.key.ClassKey.TheVariants as keys
use Rattle.som_model.specs.declared.syntax.Expr.{Expr, roll-Expr, map-Expr, ind-Expr, fold-roll-Expr}
use Rattle.som_model.specs.declared.syntax.Expr.TheOpen.{Expr-F}
use Rattle.som_model.specs.declared.syntax.Stmt.{Stmt, roll-Stmt, map-Stmt, fold-roll-Stmt}
use Rattle.som_model.specs.declared.syntax.Stmt.TheOpen.{Stmt-F}
use Rattle.som_model.specs.declared.syntax.Block.{Block, roll-Block, map-Block, ind-Block, fold-roll-Block}
use Rattle.som_model.specs.declared.program.Fault.TheVariants as faults
use Rattle.som_model.specs.declared.limits.TheConstants.{MAX_DEPTH}
use Rattle.som_model.specs.Kernel.{som_init, som_uninit, som_free, som_new, som_dispatch_name, before_method, after_method}
use Rattle.som_model.specs.Implementation.{Held, User, Get, Set, OfKernel}
use Rattle.som_model.specs.Implementation as held
use Rattle.som_semantics.specs.World.{World}
use Rattle.som_semantics.specs.State.{Value, Long, Boolean, Nil, Str, To, Ref, Object, ClassObject, Manager, Instance, Heap, Place, InMain, InBody, Manner, Offset, Lookup, Dispatch, Before, After, Forward, Event, Printed, Called, Used, State, Tried, receiver, live, class_of, target_of, changed, write, freed, with_variable, no_longer_live}
use Rattle.som_semantics.specs.Runs.{Ran, Goes, Ends, end_of, follow, IsLater, Act}
use Rattle.som_semantics.specs.Acts.{◌>>=◌, ◌>>◌, pure, fault, tried, asked, emit, take_unit, unit_from, reading, become, write_stays, freed_stays, make, new_instance, bounded, Grown}
use Rattle.som_semantics.specs.Values.{BinaryOp, And, Or, binary_op, text_of, cast, sig_fits}
use Rattle.som_semantics.specs.Calls.{Calls, Request, Here, class_here, found, offset_call, named_call, dispatch_call, parent_call, parents_calls}
use Rattle.som_semantics.specs.Expressions.{Frame, Evals, is_true, read, each_of, either, new_on, proxy_on, expr_step, eval}
use Rattle.som_semantics.specs.Statements.{Flow, Next, Return, Returned, Runs, go_on, assign, turn, turns, turns_grown, while_loop, all_of, block_step, stmt_step, exec, run_block}
use Rattle.som_semantics.specs.Invoked.{first_argument, stands_for, class_found, found_object, asks, KernelBody, Idle, Free, New, NewNoInit, FindClass, Asks, table, kernel_body, free_body, kernel_does, forward_body, body_does}
use Rattle.som_semantics.specs.Means.{body_class, hooks_of, invoke, invoke_held, invoke_in, invoke_hook, each_hook, bodies, calls, beginning, main_act, means_in}
use Rattle.som_semantics.proofs.CallLaws.{call_none, call_some}

-- the objects that there are, and the units that are left
abbrev pub size : State → ℕ
size s = length s.heap.objects + s.fuel

-- an act leaves at most so many more than there were
pub record IsWithin {A : Type 0} (d : ℕ) (m : Act A) : Type 0 where
  pub by : (s : State) → size (end_of (m.does s)) ≤ size s + d

module _ {A : Type 0} where
  pure_within : (a : A) → IsWithin 0 (pure a)
  pure_within a = record { by = λ s. omega arith }

  fault_within : (f : _) (at : Place) → IsWithin {A = A} 0 (fault f at)
  fault_within f at = record { by = λ s. omega arith }

  tried_within : (at : Place) (t : Tried A) → IsWithin 0 (tried at t)
  tried_within at (Ok a) = pure_within a
  tried_within at (Err f) = fault_within f at

  reading_within : (d : ℕ) (m : Heap → Act A) → ((h : Heap) → IsWithin d (m h)) → IsWithin d (reading m)
  reading_within d m w = record { by = λ s. (w s.heap).by s }

  asked_within : (at : Place) (t : Heap → Tried A) → IsWithin 0 (asked at t)
  asked_within at t = reading_within 0 (λ h. tried at (t h)) (λ h. tried_within at (t h))

  bounded_within : (m : ℕ → Act A) (g : Grown m) → ((n : ℕ) → IsWithin 0 (m n)) → IsWithin 0 (bounded m g)
  bounded_within m g w = record { by = λ s. (w s.fuel).by s }

emit_within : (e : Event) → IsWithin 0 (emit e)
emit_within e = record { by = λ s. omega arith }

module _ {A B : Type 0} where
  follow_within : (n d : ℕ) (r : Ran A) (k : A → Act B) → size (end_of r) ≤ n → ((a : A) → IsWithin d (k a)) → size (end_of (follow r (λ a. (k a).does))) ≤ n + d
  follow_within n d (Goes a s) k le w = omega (arith, le, (w a).by s)
  follow_within n d (Ends c s) k le w = omega (arith, le)

  -- what an act leaves, and what follows it
  pub bind_within : (d : ℕ) (m : Act A) (k : A → Act B) → IsWithin 0 m → ((a : A) → IsWithin d (k a)) → IsWithin d (m >>= k)
  bind_within d m k w v = record { by = λ s. (let e : size s + 0 ≡ size s = omega arith in follow_within (size s) d (m.does s) k (subst (λ z. size (end_of (m.does s)) ≤ z) e (w.by s)) v) }

  pub made_within : (m : Act A) (k : A → Act B) → IsWithin 1 m → ((a : A) → IsWithin 0 (k a)) → IsWithin 1 (m >>= k)
  made_within m k w v = record { by = λ s. (let p = follow_within (size s + 1) 0 (m.does s) k (w.by s) v in omega (arith, p)) }

-- a unit pays for one object
unit_pays : {A : Type 0} (n : ℕ) (s : State) (m : Act A) → IsWithin 1 m → size (end_of (follow (unit_from n s) (λ x. m.does))) ≤ length s.heap.objects + n
unit_pays zero s m w = omega arith
unit_pays (suc n) s m w = let p = w.by (record { fuel = n; events = s.events; heap = s.heap }) in omega (arith, p)

pub unit_within : {A : Type 0} (m : Act A) → IsWithin 1 m → IsWithin 0 (take_unit >> m)
unit_within m w = record { by = λ s. (let p = unit_pays s.fuel s m w in omega (arith, p)) }

pub within_one : {A : Type 0} (m : Act A) → IsWithin 0 m → IsWithin 1 m
within_one m w = record { by = λ s. (let p = w.by s in omega (arith, p)) }

become_within : (f : Heap → Heap) (stays : (h : Heap) → IsLater h (f h)) → ((h : Heap) → length (f h).objects ≡ length h.objects) → IsWithin 0 (become f stays)
become_within f stays e = record { by = λ s. (let p = e s.heap in omega (arith, p)) }

changed_length : (f : Instance → Instance) (ts : List Instance) (i : ℕ) → length (changed f ts i) ≡ length ts
changed_length f [] i = refl
changed_length f (t ∷ ts) zero = refl
changed_length f (t ∷ ts) (suc i) = ap suc (changed_length f ts i)

write_length : (r : Ref) (k : ClassKey) (n : ℕ) (v : Value) (h : Heap) → length (write r k n v h).objects ≡ length h.objects
write_length (Object i) k n v h = changed_length (with_variable k n v) h.objects i
write_length (ClassObject c) k n v h = refl
write_length Manager k n v h = refl

freed_length : (r : Ref) (h : Heap) → length (freed r h).objects ≡ length h.objects
freed_length (Object i) h = changed_length no_longer_live h.objects i
freed_length (ClassObject c) h = refl
freed_length Manager h = refl

make_within : (w : World) (k : ClassKey) (v : Value) → IsWithin 1 (make w k v)
make_within w k v = record { by = λ s. (let p : length (s.heap.objects ++ new_instance w k v ∷ []) ≡ length s.heap.objects + 1 = length-append s.heap.objects (new_instance w k v ∷ []) in omega (arith, p)) }

-- ---- calls, expressions and statements

module _ (w : World) (call : Calls) (calls_within : (q : Request) → IsWithin 0 (call q)) where
  offset_within : (at : Place) (way : Manner) (r : MethodRef) (on : Value) (args : List Value) → IsWithin 0 (offset_call w call at way r on args)
  offset_within at way r on args = bind_within 0 _ _ (asked_within at (λ h. receiver h on)) (λ self. calls_within _)

  named_within : (at : Place) (way : Manner) (wanted : ValueType) (name : List ℕ) (on : Value) (args : List Value) → IsWithin 0 (named_call w call at way wanted name on args)
  named_within at way wanted name on args =
      bind_within 0 _ _ (asked_within at (λ h. receiver h on)) (λ self. bind_within 0 _ _ (asked_within at (λ h. found (w.byname (class_of w h self) name))) (λ method.
      bind_within 0 _ _ (asked_within at (λ h. sig_fits w h (w.sig method) wanted args)) (λ fits. calls_within (record { from = at; way = way; self = self; parent = None; method = method; args = args }))))

  dispatch_within : (at : Place) (wanted : ValueType) (name : List ℕ) (on : Value) (args : List Value) → IsWithin 0 (dispatch_call w call at wanted name on args)
  dispatch_within at wanted name on args = bind_within 0 _ _ (offset_within at Offset som_dispatch_name on (Str name ∷ [])) (λ v. named_within at Dispatch wanted (text_of v) on args)

  parent_within : (here : Here) (p : ClassKey) (r : MethodRef) (args : List Value) → IsWithin 0 (parent_call w call here p r args)
  parent_within here p r args = bind_within 0 _ _ (tried_within here.place _) (λ self. calls_within _)

  if_within : {A : Type 0} (d : ℕ) (b : Bool) (x y : Act A) → IsWithin d x → IsWithin d y → IsWithin d (if b then x else y)
  if_within d true x y p q = p
  if_within d false x y p q = q

  parents_within : (here : Here) (ps : List ClassKey) (r : MethodRef) (args : List Value) → IsWithin 0 (parents_calls w call here ps r args)
  parents_within here [] r args = pure_within Nil
  parents_within here (p ∷ ps) r args =
      if_within 0 (w.is_a p (w.owner r).class) _ _ (bind_within 0 _ _ (parent_within here p r args) (λ v. parents_within here ps r args)) (parents_within here ps r args)

  new_within : (at : Place) (k : ClassKey) → IsWithin 0 (new_on w call at k)
  new_within at k = bind_within 0 _ _ (emit_within (Used k)) (λ x. bind_within 0 _ _ (offset_within at Offset som_new (To (ClassObject k)) []) (λ v. asked_within at (λ h. cast w k h v)))

  proxy_within : (at : Place) (k : ClassKey) (v : Value) → IsWithin 0 (proxy_on w at k v)
  proxy_within at k v = bind_within 0 _ _ (asked_within at (λ h. receiver h v)) (λ r.
      unit_within _ (made_within _ _ (make_within w (keys.Proxy k) v) (λ r. bind_within 0 _ _ (emit_within (Used (keys.Proxy k))) (λ x. pure_within (To r)))))

  module _ (here : Here) where
    -- what an expression and a statement leave, whatever the locals are
    abbrev ExprWithin : Expr → Type 0
    ExprWithin e = (frame : Frame) → IsWithin 0 (eval w call here e frame)

    abbrev Kept : Type 0
    Kept = (e : Expr) × ExprWithin e

    each_within : (ks : List Kept) (frame : Frame) → IsWithin 0 (each_of (map (eval w call here) (map (λ (k : Kept). k.0) ks)) frame)
    each_within [] frame = pure_within []
    each_within (k ∷ ks) frame = bind_within 0 _ _ (k.1 frame) (λ v. bind_within 0 _ _ (each_within ks frame) (λ vs. pure_within (v ∷ vs)))

    either_within : (op : BinaryOp) (x : Value) (right : Act Value) (both : Value → Act Value) → IsWithin 0 right → ((y : Value) → IsWithin 0 (both y)) → IsWithin 0 (either op x right both)
    either_within And x right both p q = if_within 0 (is_true x) _ _ p (pure_within _)
    either_within Or x right both p q = if_within 0 (is_true x) _ _ (pure_within _) p
    either_within op x right both p q = bind_within 0 _ _ p q

    layer_within : (y : Expr-F Kept) (frame : Frame) → IsWithin 0 (expr_step w call here (map-Expr Expr Evals (eval w call here) (map-Expr Kept Expr (λ (k : Kept). k.0) y)) frame)
    layer_within (Expr-F.Long z) frame = pure_within _
    layer_within (Expr-F.Str t) frame = pure_within _
    layer_within (Expr-F.Boolean b) frame = pure_within _
    layer_within Expr-F.Nil frame = pure_within _
    layer_within (Expr-F.Local n) frame = pure_within _
    layer_within Expr-F.Me frame = pure_within _
    layer_within (Expr-F.Variable n) frame = asked_within here.place _
    layer_within (Expr-F.Unary op k) frame = bind_within 0 _ _ (k.1 frame) (λ v. tried_within here.place _)
    layer_within (Expr-F.Binary op k l) frame = bind_within 0 _ _ (k.1 frame) (λ x. either_within (binary_op op) x _ _ (l.1 frame) (λ y. tried_within here.place _))
    layer_within (Expr-F.New c) frame = new_within here.place c
    layer_within (Expr-F.Class c) frame = bind_within 0 _ _ (emit_within (Used c)) (λ x. pure_within (To (ClassObject c)))
    layer_within Expr-F.Manager frame = pure_within _
    layer_within (Expr-F.Cast c k) frame = bind_within 0 _ _ (k.1 frame) (λ v. asked_within here.place _)
    layer_within (Expr-F.Isa c k) frame = bind_within 0 _ _ (k.1 frame) (λ v. asked_within here.place _)
    layer_within (Expr-F.Proxy c k) frame = bind_within 0 _ _ (k.1 frame) (λ v. proxy_within here.place c v)
    layer_within (Expr-F.OffsetCall r k ks) frame = bind_within 0 _ _ (k.1 frame) (λ on. bind_within 0 _ _ (each_within ks frame) (λ vs. offset_within here.place Offset r on vs))
    layer_within (Expr-F.Lookup wanted name k ks) frame = bind_within 0 _ _ (k.1 frame) (λ on. bind_within 0 _ _ (each_within ks frame) (λ vs. named_within here.place Lookup wanted name on vs))
    layer_within (Expr-F.Dispatch wanted name k ks) frame = bind_within 0 _ _ (k.1 frame) (λ on. bind_within 0 _ _ (each_within ks frame) (λ vs. dispatch_within here.place wanted name on vs))
    layer_within (Expr-F.ParentCall n r ks) frame = bind_within 0 _ _ (each_within ks frame) (λ vs. parent_within here _ r vs)
    layer_within (Expr-F.ParentsCall r ks) frame = bind_within 0 _ _ (each_within ks frame) (λ vs. parents_within here _ r vs)
    layer_within (Expr-F.Host code k l) frame = bind_within 0 _ _ (k.1 frame) (λ x. bind_within 0 _ _ (l.1 frame) (λ y. pure_within _))

    expr_within : (e : Expr) → ExprWithin e
    expr_within = ind-Expr ExprWithin (λ x y is. subst (λ z. ExprWithin (roll-Expr z)) is (λ frame.
        subst (λ (f : Evals). IsWithin 0 (f frame)) (sym (fold-roll-Expr Evals (expr_step w call here) (map-Expr Kept Expr (λ (k : Kept). k.0) y))) (layer_within y frame)))

    go_on_within : (flow : Flow) (rest : Runs) → ((frame : Frame) → IsWithin 0 (rest frame)) → IsWithin 0 (go_on flow rest)
    go_on_within (Next frame) rest p = p frame
    go_on_within Return rest p = pure_within _
    go_on_within (Returned v) rest p = pure_within _

    assign_within : (at : Place) (k : ClassKey) (n : ℕ) (me v : Value) → IsWithin 0 (assign at k n me v)
    assign_within at k n (To r) v = bind_within 0 _ _ (asked_within at (λ h. live h r)) (λ x. become_within (write r k n v) (write_stays r k n v) (write_length r k n v))
    assign_within at k n Nil v = fault_within _ at
    assign_within at k n (Long z) v = fault_within _ at
    assign_within at k n (Boolean b) v = fault_within _ at
    assign_within at k n (Str t) v = fault_within _ at

    module _ (c : Evals) (body : Runs) (condition_within : (frame : Frame) → IsWithin 0 (c frame)) (body_within : (frame : Frame) → IsWithin 0 (body frame)) where
      turn_within : (rest : Runs) → ((frame : Frame) → IsWithin 0 (rest frame)) → (frame : Frame) → IsWithin 0 (turn c body rest frame)
      turn_within rest p frame = bind_within 0 _ _ (condition_within frame) (λ v.
          if_within 0 (is_true v) _ _ (unit_within _ (within_one _ (bind_within 0 _ _ (body_within frame) (λ flow. go_on_within flow rest p)))) (pure_within _))

      turns_within : (n : ℕ) (frame : Frame) → IsWithin 0 (turns n c body frame)
      turns_within zero frame = turn_within (λ f. pure (Next f)) (λ f. pure_within (Next f)) frame
      turns_within (suc n) frame = turn_within (turns n c body) (turns_within n) frame

      while_within : (frame : Frame) → IsWithin 0 (while_loop c body frame)
      while_within frame = bounded_within (λ n. turns n c body frame) (turns_grown c body frame) (λ n. turns_within n frame)

    abbrev StmtWithin : Stmt → Type 0
    StmtWithin s = (frame : Frame) → IsWithin 0 (exec w call here s frame)

    abbrev BlockWithin : Block → Type 0
    BlockWithin b = (frame : Frame) → IsWithin 0 (run_block w call here b frame)

    abbrev KeptStmt : Type 0
    KeptStmt = (s : Stmt) × StmtWithin s

    abbrev KeptBlock : Type 0
    KeptBlock = (b : Block) × BlockWithin b

    all_within : (ks : List KeptStmt) (frame : Frame) → IsWithin 0 (all_of (map (exec w call here) (map (λ (k : KeptStmt). k.0) ks)) frame)
    all_within [] frame = pure_within _
    all_within (k ∷ ks) frame = bind_within 0 _ _ (k.1 frame) (λ flow. go_on_within flow (all_of (map (exec w call here) (map (λ (x : KeptStmt). x.0) ks))) (all_within ks))

    stmt_within : (y : Stmt-F KeptStmt KeptBlock) (frame : Frame)
        → IsWithin 0 (stmt_step w call here (map-Stmt Stmt Block Runs Runs (exec w call here) (run_block w call here) (map-Stmt KeptStmt KeptBlock Stmt Block (λ (k : KeptStmt). k.0) (λ (k : KeptBlock). k.0) y)) frame)
    stmt_within (Stmt-F.Var kind e) frame = bind_within 0 _ _ (expr_within e frame) (λ v. pure_within _)
    stmt_within (Stmt-F.SetLocal n e) frame = bind_within 0 _ _ (expr_within e frame) (λ v. pure_within _)
    stmt_within (Stmt-F.SetVariable n e) frame = bind_within 0 _ _ (expr_within e frame) (λ v. bind_within 0 _ _ (assign_within here.place (class_here here) n here.me v) (λ x. pure_within (Next frame)))
    stmt_within (Stmt-F.If c x y) frame = bind_within 0 _ _ (expr_within c frame) (λ v. if_within 0 (is_true v) _ _ (x.1 frame) (y.1 frame))
    stmt_within (Stmt-F.While c b) frame = while_within (eval w call here c) (run_block w call here b.0) (expr_within c) b.1 frame
    stmt_within Stmt-F.Return frame = pure_within _
    stmt_within (Stmt-F.ReturnValue e) frame = bind_within 0 _ _ (expr_within e frame) (λ v. pure_within _)
    stmt_within (Stmt-F.Print e) frame = bind_within 0 _ _ (expr_within e frame) (λ v. bind_within 0 _ _ (emit_within (Printed (text_of v))) (λ x. pure_within (Next frame)))
    stmt_within (Stmt-F.Free e) frame = bind_within 0 _ _ (expr_within e frame) (λ v. bind_within 0 _ _ (offset_within here.place Offset som_free v []) (λ x. pure_within _))
    stmt_within (Stmt-F.Call e) frame = bind_within 0 _ _ (expr_within e frame) (λ v. pure_within _)

    block_within : (b : Block) → BlockWithin b
    block_within = ind-Block StmtWithin BlockWithin
        (λ x y is. subst (λ z. StmtWithin (roll-Stmt z)) is (λ frame.
        subst (λ (f : Runs). IsWithin 0 (f frame)) (sym (fold-roll-Stmt Runs Runs (stmt_step w call here) block_step (map-Stmt KeptStmt KeptBlock Stmt Block (λ (k : KeptStmt). k.0) (λ (k : KeptBlock). k.0) y))) (stmt_within y frame)))
        (λ x y is. subst (λ z. BlockWithin (roll-Block z)) is (λ frame.
        subst (λ (f : Runs). IsWithin 0 (f frame)) (sym (fold-roll-Block Runs Runs (stmt_step w call here) block_step (map-Block KeptStmt KeptBlock Stmt Block (λ (k : KeptStmt). k.0) (λ (k : KeptBlock). k.0) y)))
        (bind_within 0 _ _ (all_within y.statements frame) (λ flow. pure_within _))))

  -- ---- bodies

  module _ (at : Place) (self : Ref) where
    free_within : (r : Ref) → IsWithin 0 (free_body w call at self r)
    free_within (Object i) = bind_within 0 _ _ (offset_within at Offset som_uninit (To self) []) (λ v. bind_within 0 _ _ (asked_within at (λ h. live h self)) (λ r.
        bind_within 0 _ _ (become_within (freed self) (freed_stays self) (freed_length self)) (λ x. pure_within Nil)))
    free_within (ClassObject k) = fault_within _ at
    free_within Manager = fault_within _ at

    found_within : (k : Option ClassKey) → IsWithin 0 (found_object k)
    found_within None = pure_within _
    found_within (Some k) = bind_within 0 _ _ (emit_within (Used k)) (λ x. pure_within (To (ClassObject k)))

    -- a body of the kernel makes one object at most
    kernel_within : (b : KernelBody) (args : List Value) → IsWithin 1 (kernel_does w call at self b args)
    kernel_within Idle args = within_one _ (pure_within _)
    kernel_within Free args = within_one _ (free_within self)
    kernel_within New args = bind_within 1 _ _ (tried_within at (stands_for self)) (λ k. made_within _ _ (make_within w k Nil) (λ r. bind_within 0 _ _ (offset_within at Offset som_init (To r) []) (λ v. pure_within (To r))))
    kernel_within NewNoInit args = bind_within 1 _ _ (tried_within at (stands_for self)) (λ k. made_within _ _ (make_within w k Nil) (λ r. pure_within (To r)))
    kernel_within FindClass args = within_one _ (found_within (class_found w args))
    kernel_within (Asks q) args = within_one _ (asked_within at (asks w q self args))

    forward_within : (r : MethodRef) (args : List Value) → IsWithin 0 (forward_body w call at self r args)
    forward_within r args = bind_within 0 _ _ (asked_within at (λ h. live h self)) (λ x. bind_within 0 _ _ (asked_within at (λ h. Ok (target_of h self))) (λ on. offset_within at Forward r on args))

  body_within : (b : Held) (x : ClassKey) (r : MethodRef) (self : Ref) (args : List Value) → IsWithin 1 (body_does w call b x r self args)
  body_within (User block) x r self args = within_one _ (bind_within 0 _ _ (block_within (record { me = To self; place = InBody x r.name }) block args) (λ flow. pure_within _))
  body_within (Get n) x r self args = within_one _ (asked_within (InBody x r.name) (read x n (To self)))
  body_within (Set n) x r self args = within_one _ (bind_within 0 _ _ (assign_within (record { me = To self; place = InBody x r.name }) (InBody x r.name) x n (To self) (first_argument args)) (λ v. pure_within Nil))
  body_within (OfKernel name) x r self args = kernel_within (InBody x r.name) self (kernel_body table name) args
  body_within held.Forward x r self args = within_one _ (forward_within (InBody x r.name) self r args)
  body_within held.Nothing x r self args = within_one _ (pure_within _)

  invoke_within : (way : Manner) (r : MethodRef) (x : ClassKey) (b : Held) (self : Ref) (args : List Value) → IsWithin 0 (invoke w call way r x b self args)
  invoke_within way r x b self args = unit_within _ (bind_within 1 _ _ (emit_within (Called r way x)) (λ u. body_within b x r self args))

  held_within : (way : Manner) (r : MethodRef) (x : ClassKey) (b : Option Held) (self : Ref) (args : List Value) → IsWithin 0 (invoke_held w call way r x b self args)
  held_within way r x None self args = pure_within _
  held_within way r x (Some b) self args = invoke_within way r x b self args

  in_within : (way : Manner) (r : MethodRef) (x : Option ClassKey) (self : Ref) (args : List Value) → IsWithin 0 (invoke_in w call way r x self args)
  in_within way r None self args = pure_within _
  in_within way r (Some x) self args = held_within way r x (w.held x r) self args

  hook_within : (way : Manner) (r : MethodRef) (x : ClassKey) (b : Option Held) (self : Ref) (args : List Value) → IsWithin 0 (invoke_hook w call way r x b self args)
  hook_within way r x None self args = pure_within _
  hook_within way r x (Some b) self args = bind_within 0 _ _ (invoke_within way r x b self args) (λ v. pure_within _)

  hooks_within : (way : Manner) (r : MethodRef) (ks : List ClassKey) (self : Ref) (args : List Value) → IsWithin 0 (each_hook w call way r ks self args)
  hooks_within way r [] self args = pure_within _
  hooks_within way r (k ∷ ks) self args = bind_within 0 _ _ (hook_within way r k (w.held k r) self args) (λ v. hooks_within way r ks self args)

  bodies_within : (x : ClassKey) (q : Request) → IsWithin 0 (bodies w call x q)
  bodies_within x q =
      bind_within 0 _ _ (hooks_within Before before_method (hooks_of w x q) (ClassObject x) _) (λ u.
      bind_within 0 _ _ (in_within q.way q.method (body_class w x q) q.self q.args) (λ v.
      bind_within 0 _ _ (hooks_within After after_method (reverse (hooks_of w x q)) (ClassObject x) _) (λ z. pure_within v)))

module _ (w : World) where
  all_calls_within : (levels : ℕ) (q : Request) → IsWithin 0 (calls w levels q)
  all_calls_within zero q = subst (λ (a : Act Value). IsWithin 0 a) (sym (call_none w q)) (fault_within faults.Depth q.from)
  all_calls_within (suc levels) q = subst (λ (a : Act Value). IsWithin 0 a) (sym (call_some w levels q)) (reading_within 0 _ (λ h. bodies_within w (calls w levels) (all_calls_within levels) (class_of w h q.self) q))

  -- main makes no more objects than it takes units
  pub main_within : (main : Block) (fuel : ℕ) → let r = means_in w main fuel in length (end_of r).heap.objects + (end_of r).fuel ≤ fuel
  main_within main fuel =
      let within : IsWithin 0 (main_act w main) = bind_within 0 _ _ (block_within w (calls w MAX_DEPTH) (all_calls_within MAX_DEPTH) (record { me = Nil; place = InMain }) main []) (λ flow. pure_within tt) in
      let le = within.by (beginning w fuel) in
      omega (arith, le)
