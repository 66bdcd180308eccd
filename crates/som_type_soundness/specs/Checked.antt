-- The meaning once more, where each step first tests what it takes for granted: that what it asks for is there, and of the right type.
-- Where a test fails, something else is done, of which nothing is known: `otherwise`.
use Rattle.std.specs.Prelude.{ℕ, zero, suc, Bool, true, false, not, List, [], ◌∷◌, ◌++◌, map, reverse, Option, Some, None, is_some, if◌then◌else◌, slice_get, slice_set, ◌&&◌}
use Rattle.som_model.specs.declared.key.ClassKey.{ClassKey}
use Rattle.som_model.specs.declared.key.MethodRef.{MethodRef}
use Rattle.som_model.specs.declared.syntax.Expr.{Expr, fold-Expr}
use Rattle.som_model.specs.declared.syntax.Expr.TheOpen.{Expr-F}
use Rattle.som_model.specs.declared.syntax.Expr.TheVariants as exprs
use Rattle.som_model.specs.declared.syntax.Stmt.{Stmt, fold-Stmt}
use Rattle.som_model.specs.declared.syntax.Stmt.TheVariants as stmts
use Rattle.som_model.specs.declared.syntax.Stmt.TheOpen.{Stmt-F}
use Rattle.som_model.specs.declared.syntax.Block.{Block, fold-Block}
use Rattle.som_model.specs.declared.program.Fault.TheVariants as faults
use Rattle.som_model.specs.declared.limits.TheConstants.{MAX_DEPTH}
use Rattle.som_model.specs.Kernel.{som_free, an_object, before_method, after_method}
use Rattle.som_model.specs.Implementation.{Held}
use Rattle.som_model.specs.Implementation as held
use Rattle.som_semantics.specs.World.{World}
use Rattle.som_semantics.specs.State.{Value, Nil, Str, To, Ref, ClassObject, Heap, InMain, InBody, Manner, Offset, Before, After, Called, class_of}
use Rattle.som_semantics.specs.Runs.{Ran, Act}
use Rattle.som_semantics.specs.Acts.{◌>>=◌, ◌>>◌, pure, tried, fault, take_unit, emit, reading}
use Rattle.som_semantics.specs.Values.{binary, binary_op}
use Rattle.som_semantics.specs.Calls.{Calls, Request, Here, class_here, offset_call}
use Rattle.som_semantics.specs.Expressions.{Evals, either, expr_step, is_true}
use Rattle.som_semantics.specs.Statements.{Flow, Next, Return, Returned, Runs, assign, print_value, while_loop, block_step}
use Rattle.som_semantics.specs.Invoked.{result_zero, answer_of, body_does}
use Rattle.som_semantics.specs.Means.{body_class, hooks_of, beginning}
use Rattle.som_type_soundness.specs.Values.{is_value, has_type, have_types, are_of_one_kind, is_result, is_long, is_boolean, has_text, unary_takes, binary_takes}
use Rattle.som_type_soundness.specs.Checks.{has_local, is_class, is_kind, of_class, stands, has_slot, has_parent, has_parents, has_method, can_run, kernel_can, has_target}

-- whether a body ended with a value
abbrev pub is_returned : Flow → Bool
is_returned (Returned v) = true
is_returned _ = false

-- a main that prints nil
abbrev pub printing_nil : Block
printing_nil = record { statements = stmts.Print exprs.Nil ∷ [] }

module _ (otherwise : Act (Unit {0})) where
  -- where this doesn't hold of the objects, something else is done
  abbrev pub check : (Heap → Bool) → Act (Unit {0})
  check holds = reading (λ h. if holds h then pure tt else otherwise)

  -- a value that passes a test
  abbrev pub checked_value : (Value → Heap → Bool) → Act Value → Act Value
  checked_value test m = do
    v ← m
    check (test v)
    pure v

  -- an expression whose value passes a test
  abbrev pub such_that : (Value → Heap → Bool) → Evals → Evals
  such_that test e frame = checked_value test (e frame)

  module _ (w : World) where
    -- ---- expressions: the steps of their meaning, with tests that the parts have values which the steps take

    module _ (call : Calls) (here : Here) where
      -- an expression, by what its parts do: what it names is there, and its parts have values that it takes
      abbrev pub expr_checked : Expr-F Evals → Evals
      expr_checked (Expr-F.Local n) frame = check (λ h. is_some (slice_get frame n)) >> expr_step w call here (Expr-F.Local n) frame
      expr_checked Expr-F.Me frame = check (stands w (class_here here) here.me) >> expr_step w call here Expr-F.Me frame
      expr_checked (Expr-F.Variable n) frame = check (has_slot w (class_here here) n here.me) >> expr_step w call here (Expr-F.Variable n) frame
      expr_checked (Expr-F.Unary op e) frame = expr_step w call here (Expr-F.Unary op (such_that (λ v h. unary_takes op v) e)) frame
      expr_checked (Expr-F.Binary op a b) frame = do
        x ← such_that (λ v h. binary_takes op v) a frame
        either (binary_op op) x (such_that (λ v h. binary_takes op v && are_of_one_kind x v) b frame) (λ y. tried here.place (binary (binary_op op) x y))
      expr_checked (Expr-F.New k) frame = check (is_class w k) >> expr_step w call here (Expr-F.New k) frame
      expr_checked (Expr-F.Class k) frame = check (is_class w k) >> expr_step w call here (Expr-F.Class k) frame
      expr_checked (Expr-F.Cast k e) frame = check (is_class w k) >> expr_step w call here (Expr-F.Cast k (such_that (λ v h. has_type w h an_object v) e)) frame
      expr_checked (Expr-F.Isa k e) frame = check (is_class w k) >> expr_step w call here (Expr-F.Isa k (such_that (λ v h. has_type w h an_object v) e)) frame
      expr_checked (Expr-F.Proxy k e) frame = check (is_class w k) >> expr_step w call here (Expr-F.Proxy k (such_that (of_class w k) e)) frame
      expr_checked (Expr-F.OffsetCall r e es) frame = expr_step w call here (Expr-F.OffsetCall r (such_that (of_class w r.class) e) es) frame
      expr_checked (Expr-F.Lookup wanted name e es) frame =
          check (is_kind w wanted) >> expr_step w call here (Expr-F.Lookup wanted name (such_that (λ v h. has_type w h an_object v) e) (map (such_that (λ v h. is_value w h v)) es)) frame
      expr_checked (Expr-F.Dispatch wanted name e es) frame =
          check (is_kind w wanted) >> expr_step w call here (Expr-F.Dispatch wanted name (such_that (λ v h. has_type w h an_object v) e) (map (such_that (λ v h. is_value w h v)) es)) frame
      expr_checked (Expr-F.ParentCall n r es) frame = check (has_parent w here n) >> expr_step w call here (Expr-F.ParentCall n r es) frame
      expr_checked (Expr-F.ParentsCall r es) frame = check (has_parents w here r) >> expr_step w call here (Expr-F.ParentsCall r es) frame
      expr_checked (Expr-F.Host code a b) frame = expr_step w call here (Expr-F.Host code (such_that (λ v h. is_long v) a) (such_that (λ v h. is_long v) b)) frame
      expr_checked y frame = expr_step w call here y frame

      -- what an expression does, with all tests in it
      abbrev pub checked_eval : Expr → Evals
      checked_eval = fold-Expr Evals expr_checked

      -- ---- statements

      -- a statement, by what its blocks do: what is put into a local or a variable is of its type, and what is asked, printed or freed can be
      abbrev pub stmt_checked : Stmt-F Runs Runs → Runs
      stmt_checked (Stmt-F.Var kind e) frame = do
        v ← such_that (λ v h. has_type w h kind v) (checked_eval e) frame
        pure (Next (frame ++ v ∷ []))
      stmt_checked (Stmt-F.SetLocal n e) frame = do
        v ← such_that (λ v h. has_local (slice_get frame n) v) (checked_eval e) frame
        pure (Next (slice_set frame n v))
      stmt_checked (Stmt-F.SetVariable n e) frame = do
        v ← such_that (λ v h. has_slot w (class_here here) n here.me h && has_type w h (w.variable (class_here here) n) v) (checked_eval e) frame
        assign here.place (class_here here) n here.me v
        pure (Next frame)
      stmt_checked (Stmt-F.If c x y) frame = do
        v ← such_that (λ v h. is_boolean v) (checked_eval c) frame
        if is_true v then x frame else y frame
      stmt_checked (Stmt-F.While c b) frame = while_loop (such_that (λ v h. is_boolean v) (checked_eval c)) b frame
      stmt_checked Stmt-F.Return frame = pure Return
      stmt_checked (Stmt-F.ReturnValue e) frame = do
        v ← checked_eval e frame
        pure (Returned v)
      stmt_checked (Stmt-F.Print e) frame = do
        v ← such_that (λ v h. has_text v) (checked_eval e) frame
        print_value v
        pure (Next frame)
      stmt_checked (Stmt-F.Free e) frame = do
        v ← such_that (λ v h. has_type w h an_object v) (checked_eval e) frame
        offset_call w call here.place Offset som_free v []
        pure (Next frame)
      stmt_checked (Stmt-F.Call e) frame = do
        v ← checked_eval e frame
        pure (Next frame)

      -- what a statement and a block do, with all tests in them
      abbrev pub checked_exec : Stmt → Runs
      checked_exec = fold-Stmt Runs Runs stmt_checked block_step

      abbrev pub checked_block : Block → Runs
      checked_block = fold-Block Runs Runs stmt_checked block_step

    -- ---- bodies

    module _ (call : Calls) where
      -- what a body does: its variable has a slot, its row is in the kernel's table, its target is there
      abbrev pub body_checked : Held → ClassKey → MethodRef → Ref → List Value → Act Value
      body_checked (held.User block) x method self args = do
        flow ← checked_block call (record { me = To self; place = InBody x method.name }) block args
        pure (answer_of (result_zero (w.sig method)) flow)
      body_checked (held.Get n) x method self args = check (has_slot w x n (To self)) >> body_does w call (held.Get n) x method self args
      body_checked (held.Set n) x method self args =
          check (λ h. has_slot w x n (To self) h && have_types w h (w.variable x n ∷ []) args) >> body_does w call (held.Set n) x method self args
      body_checked (held.OfKernel name) x method self args = check (kernel_can w name args) >> body_does w call (held.OfKernel name) x method self args
      body_checked held.Forward x method self args = check (has_target w method self) >> body_does w call held.Forward x method self args
      body_checked held.Nothing x method self args = body_does w call held.Nothing x method self args

      -- one body is invoked, on a self in place and with arguments of the right types, and its answer is of the result's type
      abbrev pub invoke_checked : Manner → MethodRef → ClassKey → Held → Ref → List Value → Act Value
      invoke_checked way method x body self args = do
        check (can_run w method x self args)
        take_unit
        emit (Called method way x)
        checked_value (λ v h. is_result w h (w.sig method) v) (body_checked body x method self args)

      -- the class that answers a call has a body for its method
      abbrev pub held_checked : Manner → MethodRef → ClassKey → Option Held → Ref → List Value → Act Value
      held_checked way method x None self args = otherwise >> pure Nil
      held_checked way method x (Some body) self args = invoke_checked way method x body self args

      -- there is a class that answers
      abbrev pub in_checked : Manner → MethodRef → Option ClassKey → Ref → List Value → Act Value
      in_checked way method None self args = otherwise >> pure Nil
      in_checked way method (Some x) self args = held_checked way method x (w.held x method) self args

      -- a hook may have no body for one of the two methods
      abbrev pub hook_checked : Manner → MethodRef → ClassKey → Option Held → Ref → List Value → Act (Unit {0})
      hook_checked way method x None self args = pure tt
      hook_checked way method x (Some body) self args = invoke_checked way method x body self args >> pure tt

      -- the hooks, one after the other
      abbrev pub hooks_checked : Manner → MethodRef → List ClassKey → Ref → List Value → Act (Unit {0})
      hooks_checked way method [] self args = pure tt
      hooks_checked way method (k ∷ ks) self args = hook_checked way method k (w.held k method) self args >> hooks_checked way method ks self args

      -- the bodies of a call: before, the method's, and after in reverse order
      abbrev pub bodies_checked : ClassKey → Request → Act Value
      bodies_checked x q =
          let seen : List Value = To q.self ∷ Str q.method.name ∷ [] in do
            hooks_checked Before before_method (hooks_of w x q) (ClassObject x) seen
            v ← in_checked q.way q.method (body_class w x q) q.self q.args
            hooks_checked After after_method (reverse (hooks_of w x q)) (ClassObject x) seen
            pure v

    -- a call, of a method that self has, where so many levels are left
    unfoldable pub checked_calls : ℕ → Calls
    checked_calls zero q = check (has_method w q) >> fault faults.Depth q.from
    checked_calls (suc levels) q = check (has_method w q) >> reading (λ h. bodies_checked (checked_calls levels) (class_of w h q.self) q)

    -- main answers no value
    abbrev pub checked_main : Block → Act (Unit {0})
    checked_main main = checked_block (checked_calls MAX_DEPTH) (record { me = Nil; place = InMain }) main [] >>= λ flow. check (λ h. not (is_returned flow)) >> pure tt

    -- what main does from the beginning, with so much fuel, where each step tests what it takes for granted
    abbrev pub checked_in : Block → ℕ → Ran (Unit {0})
    checked_in main fuel = (checked_main main).does (beginning w fuel)
