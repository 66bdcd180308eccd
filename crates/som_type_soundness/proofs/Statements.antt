-- Statements and blocks that are well typed keep the objects and the locals typed, and no test in them fails.
use Rattle.std.proofs.Common.{◌≡◌, ℕ, zero, suc, Bool, true, false, not, ◌&&◌, if◌then◌else◌, List, [], ◌∷◌, ◌++◌, length, map, Some, slice_get, Ok, Err, refl, sym, ap, ◌∙◌, subst, true≢false, append-nil, append_assoc}
use Rattle.std.specs.Prelude.{slice_set}
use Rattle.som_model.specs.declared.key.ClassKey.{ClassKey}
use Rattle.som_model.specs.declared.key.ValueType.{ValueType}
use Rattle.som_model.specs.declared.key.ValueType.TheVariants as types
use Rattle.som_model.specs.declared.syntax.Expr.{Expr}
use Rattle.som_model.specs.declared.syntax.Stmt.{Stmt, roll-Stmt, map-Stmt, ind-Stmt, fold-roll-Stmt}
use Rattle.som_model.specs.declared.syntax.Stmt.TheOpen.{Stmt-F, Block-F}
use Rattle.som_model.specs.declared.syntax.Block.{Block, roll-Block, map-Block, ind-Block, fold-roll-Block}
use Rattle.som_model.specs.declared.program.Fault.TheVariants as faults
use Rattle.som_model.specs.Steps.{◌>>=◌}
use Rattle.som_model.specs.Blocks.{is_call}
use Rattle.som_model.specs.Kernel.{som_free, an_object}
use Rattle.som_model.specs.Rules.{is_void}
use Rattle.som_semantics.specs.World.{World}
use Rattle.som_semantics.specs.State.{Value, Long, Boolean, Str, Nil, To, Ref, Heap, Place, Offset, Printed, Tried, live, write}
use Rattle.som_semantics.specs.Runs.{Act, IsLater}
use Rattle.som_semantics.specs.Acts.{pure, fault, asked, take_unit, become, write_stays, emit, later_on}
use Rattle.som_semantics.specs.Acts as acts
use Rattle.som_semantics.specs.Values.{text_of}
use Rattle.som_semantics.specs.Calls.{Calls, Here, class_here, offset_call}
use Rattle.som_semantics.specs.Expressions.{Frame, Evals, eval, is_true}
use Rattle.som_semantics.specs.Statements.{Flow, Next, Return, Returned, Runs, go_on, assign, print_value, turn, turns, turns_grown, while_loop, all_of, leave, block_step, stmt_step, exec, run_block}
use Rattle.som_model.specs.Typing.{ClassFacts, CodePlace, ExprType, Of, needs, there, is_nothing, is_boolean, is_class, has_text, kind_is_known, fits, own_variable, value, expr_type}
use Rattle.som_model.specs.TypedBlocks.{Scope, Scoped, var_scope, local_set, variable_set, value_return, stmt_scope, block_scope, in_turn}
use Rattle.som_model.specs.TypedBlocks as typing
use Rattle.som_model.proofs.KeyLaws.{both}
use Rattle.som_model.proofs.StepLaws.{went, held, same_answer, found}
use Rattle.som_type_soundness.specs.Values.{has_type, have_types}
use Rattle.som_type_soundness.specs.Values as values
use Rattle.som_type_soundness.specs.Heaps.{AreTyped}
use Rattle.som_type_soundness.specs.Preserving.{FlowHas, IsOf}
use Rattle.som_type_soundness.specs.Checks.{has_local, has_slot}
use Rattle.som_type_soundness.specs.Checked.{such_that, checked_eval, stmt_checked, checked_exec, checked_block}
use Rattle.som_type_soundness.proofs.Keeping.{Answers, Any, Keeps, bind_keeps, pure_keeps, fault_keeps, asked_keeps, emit_keeps, unit_keeps, become_keeps, bounded_keeps, if_keeps, weaker_keeps, value_keeps}
use Rattle.som_type_soundness.proofs.Heaps.{both_true, type_later, types_later, write_typed}
use Rattle.som_type_soundness.proofs.Facts.{IsSound, InClass, facts_of}
use Rattle.som_type_soundness.proofs.Values.{value_at, one_more, one_set, first_ones, as_many, fitting, receiving, of_boolean, of_printed}
use Rattle.som_type_soundness.proofs.Operators.{same_kind}
use Rattle.som_type_soundness.proofs.Calls.{Has, CallsKeep, own_keeps}
use Rattle.som_type_soundness.proofs.Expressions.{kind_in, in_later, slot_in, expr_keeps, part_keeps}

-- the scope is that before, and more
abbrev pub Extends : Scope → Scope → Type 0
Extends scope after = (more : Scope) × (after ≡ scope ++ more)

same_scope : (scope after : Scope) → scope ≡ after → Extends scope after
same_scope scope after e = ([], sym e ∙ sym (append-nil scope))

nothing_is : (k : ValueType) → is_nothing (Of k) ≡ true → k ≡ types.Void
nothing_is types.Void e = refl
nothing_is types.Long e = absurd (true≢false (sym e))
nothing_is types.Boolean e = absurd (true≢false (sym e))
nothing_is types.Str e = absurd (true≢false (sym e))
nothing_is (types.Class k) e = absurd (true≢false (sym e))

not_void : (k : ValueType) → not (is_nothing (Of k)) ≡ true → is_void k ≡ false
not_void types.Void e = absurd (true≢false (sym e))
not_void types.Long e = refl
not_void types.Boolean e = refl
not_void types.Str e = refl
not_void (types.Class k) e = refl

anything : (x : Tried Ref) → Answers x (λ r. Unit {0})
anything (Ok r) = tt
anything (Err f) = tt

module _ (w : World) where
  -- a variable of self gets a value of its type
  pub assign_keeps : (h : Heap) (at : Place) (k : ClassKey) (n : ℕ) (me v : Value) → has_type w h (w.variable k n) v ≡ true → Keeps w h (assign at k n me v) (assign at k n me v) (Any w)
  assign_keeps h at k n (To r) v e =
      bind_keeps w h (Any w) (Any w) (λ x. become (write r k n v) (write_stays r k n v)) (λ x. become (write r k n v) (write_stays r k n v))
      (λ x g le ty u. become_keeps w g (write r k n v) (write_stays r k n v) (λ l lf tf. write_typed w r k n v l tf (type_later w h l (later_on h g l le lf) (w.variable k n) v e)))
      (asked at (λ g. live g r)) (asked at (λ g. live g r)) (asked_keeps w h (Any w) at (λ g. live g r) (λ g le ty. anything (live g r)))
  assign_keeps h at k n Nil v e = fault_keeps w h (Any w) faults.Nil at
  assign_keeps h at k n (Long z) v e = fault_keeps w h (Any w) faults.Nil at
  assign_keeps h at k n (Boolean b) v e = fault_keeps w h (Any w) faults.Nil at
  assign_keeps h at k n (Str t) v e = fault_keeps w h (Any w) faults.Nil at

  -- the rest runs where the body hasn't returned
  go_on_keeps : (h : Heap) (result : ValueType) (mid after : Scope) (flow : Flow) (m n : Runs) → FlowHas w result mid flow h → ((frame : Frame) → have_types w h mid frame ≡ true → Keeps w h (m frame) (n frame) (FlowHas w result after))
      → Keeps w h (go_on flow m) (go_on flow n) (FlowHas w result after)
  go_on_keeps h result mid after (Next frame) m n f k = k frame f
  go_on_keeps h result mid after Return m n f k = pure_keeps w h (FlowHas w result after) Return (λ g le ty. f)
  go_on_keeps h result mid after (Returned v) m n f k = pure_keeps w h (FlowHas w result after) (Returned v) (λ g le ty. (type_later w h g le result v f.0, f.1))

  leave_has : (h : Heap) (result : ValueType) (scope after : Scope) (frame : Frame) (flow : Flow) → length frame ≡ length scope → Extends scope after → FlowHas w result after flow h → FlowHas w result scope (leave (length frame) flow) h
  leave_has h result scope after frame (Next f) n x a = first_ones w h scope x.0 f frame (subst (λ z. have_types w h z f ≡ true) x.1 a) n
  leave_has h result scope after frame Return n x a = a
  leave_has h result scope after frame (Returned v) n x a = a

  flow_later : (h g : Heap) (result : ValueType) (scope : Scope) (flow : Flow) → IsLater h g → FlowHas w result scope flow h → FlowHas w result scope flow g
  flow_later h g result scope (Next frame) le f = types_later w h g le scope frame f
  flow_later h g result scope Return le f = f
  flow_later h g result scope (Returned v) le f = (type_later w h g le result v f.0, f.1)

module _ (w : World) (known : ClassKey → Bool) (sound : IsSound w known) (otherwise : Act (Unit {0})) (call checked : Calls) (keep : CallsKeep w call checked) (here : Here) (at : CodePlace) where
  abbrev F : ClassFacts
  F = facts_of w known

  abbrev E : Expr → Evals
  E = eval w call here

  abbrev C : Expr → Evals
  C = checked_eval otherwise w checked here

  abbrev X : Stmt → Runs
  X = exec w call here

  abbrev XC : Stmt → Runs
  XC = checked_exec otherwise w checked here

  abbrev R : Block → Runs
  R = run_block w call here

  abbrev RC : Block → Runs
  RC = checked_block otherwise w checked here

  abbrev S : Stmt → Scoped
  S = stmt_scope F at

  abbrev B : Block → Scoped
  B = block_scope F at

  -- from typed locals and a self in place, what is run keeps the locals typed
  abbrev pub RunKeeps : Scope → Scope → Runs → Runs → Type 0
  RunKeeps scope after m n = (h : Heap) (frame : Frame) → InClass w at.class here h → have_types w h scope frame ≡ true → Keeps w h (m frame) (n frame) (FlowHas w at.result after)

  abbrev pub StmtKeeps : Stmt → Type 0
  StmtKeeps s = (scope after : Scope) → S s scope ≡ Ok after → Extends scope after × RunKeeps scope after (X s) (XC s)

  abbrev pub BlockKeeps : Block → Type 0
  BlockKeeps b = (scope after : Scope) → B b scope ≡ Ok after → RunKeeps scope scope (R b) (RC b)

  abbrev Kept : Type 0
  Kept = (s : Stmt) × StmtKeeps s

  abbrev KeptBlock : Type 0
  KeptBlock = (b : Block) × BlockKeeps b

  abbrev bare : Stmt-F Kept KeptBlock → Stmt-F Stmt Block
  bare = map-Stmt Kept KeptBlock Stmt Block (λ (k : Kept). k.0) (λ (k : KeptBlock). k.0)

  abbrev bare_block : Block-F Kept KeptBlock → Block-F Stmt Block
  bare_block = map-Block Kept KeptBlock Stmt Block (λ (k : Kept). k.0) (λ (k : KeptBlock). k.0)

  -- a part whose value passes a test
  tested : (scope : Scope) (e : Expr) (t : ExprType) (test : Value → Heap → Bool) → value (expr_type F at scope e) ≡ Ok t → (h : Heap) (frame : Frame) → InClass w at.class here h → have_types w h scope frame ≡ true
      → ((v : Value) (g : Heap) → IsLater h g → AreTyped w g → IsOf w t v g → test v g ≡ true) → Keeps w h (E e frame) (such_that otherwise test (C e) frame) (IsOf w t)
  tested scope e t test f h frame i a p =
      value_keeps w otherwise h (IsOf w t) test (E e frame) (C e frame) p (part_keeps w known sound otherwise call checked keep here at scope e (expr_keeps w known sound otherwise call checked keep here at scope e) t f h frame i a)

  -- a loop
  module _ (scope : Scope) (c d : Evals) (m n : Runs) (conditions : (h : Heap) (frame : Frame) → InClass w at.class here h → have_types w h scope frame ≡ true → Keeps w h (c frame) (d frame) (Any w)) (bodies : RunKeeps scope scope m n) where
    turn_keeps : (r q : Runs) → RunKeeps scope scope r q → RunKeeps scope scope (turn c m r) (turn d n q)
    turn_keeps r q rests h frame i a =
        let goes : Runs → Runs → Act Flow = λ b l. acts.◌>>◌ take_unit (acts.◌>>=◌ (b frame) (λ flow. go_on flow l)) in
        bind_keeps w h (Any w) (FlowHas w at.result scope) (λ v. if is_true v then goes m r else pure (Next frame)) (λ v. if is_true v then goes n q else pure (Next frame))
        (λ v g le ty u. if_keeps w g (FlowHas w at.result scope) (is_true v) (goes m r) (pure (Next frame)) (goes n q) (pure (Next frame))
        (bind_keeps w g (Any w) (FlowHas w at.result scope) (λ x. acts.◌>>=◌ (m frame) (λ flow. go_on flow r)) (λ x. acts.◌>>=◌ (n frame) (λ flow. go_on flow q))
        (λ x g2 le2 ty2 u2. bind_keeps w g2 (FlowHas w at.result scope) (FlowHas w at.result scope) (λ flow. go_on flow r) (λ flow. go_on flow q)
        (λ flow g3 le3 ty3 f. go_on_keeps w g3 at.result scope scope flow r q f (λ b e. rests g3 b (in_later w h g3 at.class here (later_on h g g3 le (later_on g g2 g3 le2 le3)) i) e))
        (m frame) (n frame) (bodies g2 frame (in_later w h g2 at.class here (later_on h g g2 le le2) i) (types_later w h g2 (later_on h g g2 le le2) scope frame a)))
        take_unit take_unit (unit_keeps w g))
        (pure_keeps w g (FlowHas w at.result scope) (Next frame) (λ l lf tf. types_later w h l (later_on h g l le lf) scope frame a)))
        (c frame) (d frame) (conditions h frame i a)

    turns_keep : (k : ℕ) → RunKeeps scope scope (turns k c m) (turns k d n)
    turns_keep zero = turn_keeps (λ f. pure (Next f)) (λ f. pure (Next f)) (λ h frame i a. pure_keeps w h (FlowHas w at.result scope) (Next frame) (λ g le ty. types_later w h g le scope frame a))
    turns_keep (suc k) = turn_keeps (turns k c m) (turns k d n) (turns_keep k)

    loop_keeps : RunKeeps scope scope (while_loop c m) (while_loop d n)
    loop_keeps h frame i a = bounded_keeps w h (FlowHas w at.result scope) (λ k. turns k c m frame) (λ k. turns k d n frame) (turns_grown c m frame) (turns_grown d n frame) (λ k. turns_keep k h frame i a)

  var_keeps : (kind : ValueType) (e : Expr) (scope after : Scope) → (value (expr_type F at scope e) >>= var_scope F scope kind) ≡ Ok after
      → Extends scope after × RunKeeps scope after (λ frame. acts.◌>>=◌ (E e frame) (λ v. pure (Next (frame ++ v ∷ [])))) (λ frame. acts.◌>>=◌ (such_that otherwise (λ v h. has_type w h kind v) (C e) frame) (λ v. pure (Next (frame ++ v ∷ []))))
  var_keeps kind e scope after h =
      let q = went (value (expr_type F at scope e)) (var_scope F scope kind) after h in
      let k = held 16 (kind_is_known F kind) (needs 17 (fits F kind q.value) (Ok (scope ++ kind ∷ []))) after q.further in
      let f = held 17 (fits F kind q.value) (Ok (scope ++ kind ∷ [])) after k.1 in (
        (kind ∷ [], sym (same_answer f.1)),
        λ g frame i a.
            bind_keeps w g (IsOf w q.value) (FlowHas w at.result after) (λ v. pure (Next (frame ++ v ∷ []))) (λ v. pure (Next (frame ++ v ∷ [])))
            (λ v l le ty j. pure_keeps w l (FlowHas w at.result after) (Next (frame ++ v ∷ [])) (λ o lo to. subst (λ z. have_types w o z (frame ++ v ∷ []) ≡ true) (same_answer f.1)
            (one_more w o scope frame kind v (types_later w g o (later_on g l o le lo) scope frame a) (type_later w l o lo kind v (fitting w known sound l kind q.value v f.0 j)))))
            (E e frame) (such_that otherwise (λ v h. has_type w h kind v) (C e) frame) (tested scope e q.value (λ v h. has_type w h kind v) q.first g frame i a (λ v l le ty j. fitting w known sound l kind q.value v f.0 j)),
      )

  local_keeps : (n : ℕ) (e : Expr) (scope after : Scope) → (value (expr_type F at scope e) >>= local_set F scope n) ≡ Ok after
      → Extends scope after × RunKeeps scope after (λ frame. acts.◌>>=◌ (E e frame) (λ v. pure (Next (slice_set frame n v)))) (λ frame. acts.◌>>=◌ (such_that otherwise (λ v h. has_local (slice_get frame n) v) (C e) frame) (λ v. pure (Next (slice_set frame n v))))
  local_keeps n e scope after h =
      let q = went (value (expr_type F at scope e)) (local_set F scope n) after h in
      let k = went (there 16 (slice_get scope n)) (λ kind. needs 17 (fits F kind q.value) (Ok scope)) after q.further in
      let is : slice_get scope n ≡ Some k.value = found 16 (slice_get scope n) k.value k.first in
      let f = held 17 (fits F k.value q.value) (Ok scope) after k.further in (
        same_scope scope after (same_answer f.1),
        λ g frame i a.
            bind_keeps w g (IsOf w q.value) (FlowHas w at.result after) (λ v. pure (Next (slice_set frame n v))) (λ v. pure (Next (slice_set frame n v)))
            (λ v l le ty j. pure_keeps w l (FlowHas w at.result after) (Next (slice_set frame n v)) (λ o lo to. subst (λ z. have_types w o z (slice_set frame n v) ≡ true) (same_answer f.1)
            (one_set w o scope frame n k.value v (types_later w g o (later_on g l o le lo) scope frame a) is (type_later w l o lo k.value v (fitting w known sound l k.value q.value v f.0 j)))))
            (E e frame) (such_that otherwise (λ v h. has_local (slice_get frame n) v) (C e) frame) (tested scope e q.value (λ v h. has_local (slice_get frame n) v) q.first g frame i a (λ v l le ty j.
            (let u = value_at w g scope frame n k.value a is in
            subst (λ z. has_local z v ≡ true) (sym u.1) (same_kind w known sound l k.value u.0 v (type_later w g l le k.value u.0 u.2) (fitting w known sound l k.value q.value v f.0 j))))),
      )

  variable_keeps : (n : ℕ) (e : Expr) (scope after : Scope) → (value (expr_type F at scope e) >>= variable_set F at scope n) ≡ Ok after
      → Extends scope after × RunKeeps scope after (λ frame. acts.◌>>=◌ (E e frame) (λ v. acts.◌>>◌ (assign here.place (class_here here) n here.me v) (pure (Next frame))))
      (λ frame. acts.◌>>=◌ (such_that otherwise (λ v h. has_slot w (class_here here) n here.me h && has_type w h (w.variable (class_here here) n) v) (C e) frame) (λ v. acts.◌>>◌ (assign here.place (class_here here) n here.me v) (pure (Next frame))))
  variable_keeps n e scope after h =
      let q = went (value (expr_type F at scope e)) (variable_set F at scope n) after h in
      let k = went (own_variable at n) (λ kind. needs 17 (fits F kind q.value) (Ok scope)) after q.further in
      let is = found 16 (kind_in at.class n) k.value k.first in
      let f = held 17 (fits F k.value q.value) (Ok scope) after k.further in
      let test : Value → Heap → Bool = λ v h. has_slot w (class_here here) n here.me h && has_type w h (w.variable (class_here here) n) v in (
        same_scope scope after (same_answer f.1),
        λ g frame i a.
            let slot : (l : Heap) → IsLater g l → (has_slot w (class_here here) n here.me l ≡ true) × (w.variable (class_here here) n ≡ k.value) = λ l le. slot_in w l at.class here n k.value is (in_later w g l at.class here le i) in
            let typed : (l : Heap) (v : Value) → IsLater g l → IsOf w q.value v l → has_type w l (w.variable (class_here here) n) v ≡ true = λ l v le j. subst (λ z. has_type w l z v ≡ true) (sym (slot l le).1) (fitting w known sound l k.value q.value v f.0 j) in
            bind_keeps w g (IsOf w q.value) (FlowHas w at.result after) (λ v. acts.◌>>◌ (assign here.place (class_here here) n here.me v) (pure (Next frame))) (λ v. acts.◌>>◌ (assign here.place (class_here here) n here.me v) (pure (Next frame)))
            (λ v l le ty j. bind_keeps w l (Any w) (FlowHas w at.result after) (λ x. pure (Next frame)) (λ x. pure (Next frame))
            (λ x o lo to u. pure_keeps w o (FlowHas w at.result after) (Next frame) (λ p lp tp. subst (λ z. have_types w p z frame ≡ true) (same_answer f.1) (types_later w g p (later_on g l p le (later_on l o p lo lp)) scope frame a)))
            (assign here.place (class_here here) n here.me v) (assign here.place (class_here here) n here.me v) (assign_keeps w l here.place (class_here here) n here.me v (typed l v le j)))
            (E e frame) (such_that otherwise test (C e) frame)
            (tested scope e q.value test q.first g frame i a (λ v l le ty j. both_true (has_slot w (class_here here) n here.me l) (has_type w l (w.variable (class_here here) n) v) (slot l le).0 (typed l v le j))),
      )

  -- a condition, whose value is a boolean
  condition : (scope : Scope) (e : Expr) (t : ExprType) → value (expr_type F at scope e) ≡ Ok t → is_boolean t ≡ true → (h : Heap) (frame : Frame) → InClass w at.class here h → have_types w h scope frame ≡ true
      → Keeps w h (E e frame) (such_that otherwise (λ v g. values.is_boolean v) (C e) frame) (Any w)
  condition scope e t f b h frame i a =
      weaker_keeps w h (IsOf w t) (Any w) (E e frame) (such_that otherwise (λ v g. values.is_boolean v) (C e) frame) (λ v g le ty j. tt)
      (tested scope e t (λ v g. values.is_boolean v) f h frame i a (λ v g le ty j. ap values.is_boolean (of_boolean w known sound g t v b j).1))

  if_form : (e : Expr) (x y : KeptBlock) (scope after : Scope) → (value (expr_type F at scope e) >>= λ t. B x.0 scope >>= λ _. B y.0 scope >>= λ _. needs 17 (is_boolean t) (Ok scope)) ≡ Ok after
      → Extends scope after × RunKeeps scope after (λ frame. acts.◌>>=◌ (E e frame) (λ v. if is_true v then R x.0 frame else R y.0 frame))
      (λ frame. acts.◌>>=◌ (such_that otherwise (λ v h. values.is_boolean v) (C e) frame) (λ v. if is_true v then RC x.0 frame else RC y.0 frame))
  if_form e x y scope after h =
      let q = went (value (expr_type F at scope e)) (λ t. B x.0 scope >>= λ _. B y.0 scope >>= λ _. needs 17 (is_boolean t) (Ok scope)) after h in
      let p = went (B x.0 scope) (λ _. B y.0 scope >>= λ _. needs 17 (is_boolean q.value) (Ok scope)) after q.further in
      let u = went (B y.0 scope) (λ _. needs 17 (is_boolean q.value) (Ok scope)) after p.further in
      let f = held 17 (is_boolean q.value) (Ok scope) after u.further in (
        same_scope scope after (same_answer f.1),
        λ g frame i a.
            bind_keeps w g (Any w) (FlowHas w at.result after) (λ v. if is_true v then R x.0 frame else R y.0 frame) (λ v. if is_true v then RC x.0 frame else RC y.0 frame)
            (λ v l le ty j. subst (λ z. Keeps w l (if is_true v then R x.0 frame else R y.0 frame) (if is_true v then RC x.0 frame else RC y.0 frame) (FlowHas w at.result z)) (same_answer f.1)
            (if_keeps w l (FlowHas w at.result scope) (is_true v) (R x.0 frame) (R y.0 frame) (RC x.0 frame) (RC y.0 frame)
            (x.1 scope p.value p.first l frame (in_later w g l at.class here le i) (types_later w g l le scope frame a)) (y.1 scope u.value u.first l frame (in_later w g l at.class here le i) (types_later w g l le scope frame a))))
            (E e frame) (such_that otherwise (λ v h. values.is_boolean v) (C e) frame) (condition scope e q.value q.first f.0 g frame i a),
      )

  while_form : (e : Expr) (x : KeptBlock) (scope after : Scope) → (value (expr_type F at scope e) >>= λ t. B x.0 scope >>= λ _. needs 17 (is_boolean t) (Ok scope)) ≡ Ok after
      → Extends scope after × RunKeeps scope after (while_loop (E e) (R x.0)) (while_loop (such_that otherwise (λ v h. values.is_boolean v) (C e)) (RC x.0))
  while_form e x scope after h =
      let q = went (value (expr_type F at scope e)) (λ t. B x.0 scope >>= λ _. needs 17 (is_boolean t) (Ok scope)) after h in
      let p = went (B x.0 scope) (λ _. needs 17 (is_boolean q.value) (Ok scope)) after q.further in
      let f = held 17 (is_boolean q.value) (Ok scope) after p.further in (
        same_scope scope after (same_answer f.1),
        λ g frame i a.
            subst (λ z. Keeps w g (while_loop (E e) (R x.0) frame) (while_loop (such_that otherwise (λ v h. values.is_boolean v) (C e)) (RC x.0) frame) (FlowHas w at.result z)) (same_answer f.1)
            (loop_keeps scope (E e) (such_that otherwise (λ v h. values.is_boolean v) (C e)) (R x.0) (RC x.0) (condition scope e q.value q.first f.0) (x.1 scope p.value p.first) g frame i a),
      )

  value_form : (e : Expr) (scope after : Scope) → (value (expr_type F at scope e) >>= value_return F at scope) ≡ Ok after
      → Extends scope after × RunKeeps scope after (λ frame. acts.◌>>=◌ (E e frame) (λ v. pure (Returned v))) (λ frame. acts.◌>>=◌ (C e frame) (λ v. pure (Returned v)))
  value_form e scope after h =
      let q = went (value (expr_type F at scope e)) (value_return F at scope) after h in
      let f = held 19 (not (is_nothing (Of at.result)) && fits F at.result q.value) (Ok scope) after q.further in
      let b = both (not (is_nothing (Of at.result))) (fits F at.result q.value) f.0 in (
        same_scope scope after (same_answer f.1),
        λ g frame i a.
            bind_keeps w g (IsOf w q.value) (FlowHas w at.result after) (λ v. pure (Returned v)) (λ v. pure (Returned v))
            (λ v l le ty j. pure_keeps w l (FlowHas w at.result after) (Returned v) (λ o lo to. (type_later w l o lo at.result v (fitting w known sound l at.result q.value v b.1 j), not_void at.result b.0)))
            (E e frame) (C e frame) (part_keeps w known sound otherwise call checked keep here at scope e (expr_keeps w known sound otherwise call checked keep here at scope e) q.value q.first g frame i a),
      )

  print_form : (e : Expr) (scope after : Scope) → (value (expr_type F at scope e) >>= λ t. needs 17 (has_text t) (Ok scope)) ≡ Ok after
      → Extends scope after × RunKeeps scope after (λ frame. acts.◌>>=◌ (E e frame) (λ v. acts.◌>>◌ (print_value v) (pure (Next frame)))) (λ frame. acts.◌>>=◌ (such_that otherwise (λ v h. values.has_text v) (C e) frame) (λ v. acts.◌>>◌ (print_value v) (pure (Next frame))))
  print_form e scope after h =
      let q = went (value (expr_type F at scope e)) (λ t. needs 17 (has_text t) (Ok scope)) after h in
      let f = held 17 (has_text q.value) (Ok scope) after q.further in (
        same_scope scope after (same_answer f.1),
        λ g frame i a.
            bind_keeps w g (IsOf w q.value) (FlowHas w at.result after) (λ v. acts.◌>>◌ (print_value v) (pure (Next frame))) (λ v. acts.◌>>◌ (print_value v) (pure (Next frame)))
            (λ v l le ty j. bind_keeps w l (Any w) (FlowHas w at.result after) (λ x. pure (Next frame)) (λ x. pure (Next frame))
            (λ x o lo to u. pure_keeps w o (FlowHas w at.result after) (Next frame) (λ p lp tp. subst (λ z. have_types w p z frame ≡ true) (same_answer f.1) (types_later w g p (later_on g l p le (later_on l o p lo lp)) scope frame a)))
            (print_value v) (print_value v) (emit_keeps w l (Printed (text_of v))))
            (E e frame) (such_that otherwise (λ v h. values.has_text v) (C e) frame) (tested scope e q.value (λ v h. values.has_text v) q.first g frame i a (λ v l le ty j. of_printed w known sound l q.value v f.0 j)),
      )

  free_form : (e : Expr) (scope after : Scope) → (value (expr_type F at scope e) >>= λ t. needs 17 (is_class t) (Ok scope)) ≡ Ok after
      → Extends scope after × RunKeeps scope after (λ frame. acts.◌>>=◌ (E e frame) (λ v. acts.◌>>◌ (offset_call w call here.place Offset som_free v []) (pure (Next frame))))
      (λ frame. acts.◌>>=◌ (such_that otherwise (λ v h. has_type w h an_object v) (C e) frame) (λ v. acts.◌>>◌ (offset_call w checked here.place Offset som_free v []) (pure (Next frame))))
  free_form e scope after h =
      let q = went (value (expr_type F at scope e)) (λ t. needs 17 (is_class t) (Ok scope)) after h in
      let f = held 17 (is_class q.value) (Ok scope) after q.further in (
        same_scope scope after (same_answer f.1),
        λ g frame i a.
            bind_keeps w g (IsOf w q.value) (FlowHas w at.result after) (λ v. acts.◌>>◌ (offset_call w call here.place Offset som_free v []) (pure (Next frame))) (λ v. acts.◌>>◌ (offset_call w checked here.place Offset som_free v []) (pure (Next frame)))
            (λ v l le ty j. bind_keeps w l (Has w types.Void) (FlowHas w at.result after) (λ x. pure (Next frame)) (λ x. pure (Next frame))
            (λ x o lo to u. pure_keeps w o (FlowHas w at.result after) (Next frame) (λ p lp tp. subst (λ z. have_types w p z frame ≡ true) (same_answer f.1) (types_later w g p (later_on g l p le (later_on l o p lo lp)) scope frame a)))
            (offset_call w call here.place Offset som_free v []) (offset_call w checked here.place Offset som_free v [])
            (own_keeps w known sound call checked keep l here.place Offset som_free v [] _ sound.free (receiving w known sound l q.value v ty f.0 j) refl))
            (E e frame) (such_that otherwise (λ v h. has_type w h an_object v) (C e) frame) (tested scope e q.value (λ v h. has_type w h an_object v) q.first g frame i a (λ v l le ty j. receiving w known sound l q.value v ty f.0 j)),
      )

  call_form : (e : Expr) (scope after : Scope) → (expr_type F at scope e >>= λ t. needs 20 (is_call e) (Ok scope)) ≡ Ok after
      → Extends scope after × RunKeeps scope after (λ frame. acts.◌>>=◌ (E e frame) (λ v. pure (Next frame))) (λ frame. acts.◌>>=◌ (C e frame) (λ v. pure (Next frame)))
  call_form e scope after h =
      let q = went (expr_type F at scope e) (λ t. needs 20 (is_call e) (Ok scope)) after h in
      let f = held 20 (is_call e) (Ok scope) after q.further in (
        same_scope scope after (same_answer f.1),
        λ g frame i a.
            bind_keeps w g (IsOf w q.value) (FlowHas w at.result after) (λ v. pure (Next frame)) (λ v. pure (Next frame))
            (λ v l le ty j. pure_keeps w l (FlowHas w at.result after) (Next frame) (λ o lo to. subst (λ z. have_types w o z frame ≡ true) (same_answer f.1) (types_later w g o (later_on g l o le lo) scope frame a)))
            (E e frame) (C e frame) (expr_keeps w known sound otherwise call checked keep here at scope e q.value q.first g frame i a),
      )

  return_form : (scope after : Scope) → typing.plain_return at scope ≡ Ok after → Extends scope after × RunKeeps scope after (λ frame. pure Return) (λ frame. pure Return)
  return_form scope after h =
      let f = held 19 (is_nothing (Of at.result)) (Ok scope) after h in
      (same_scope scope after (same_answer f.1), λ g frame i a. pure_keeps w g (FlowHas w at.result after) Return (λ l le ty. nothing_is at.result f.0))

  layer : (y : Stmt-F Kept KeptBlock) (scope after : Scope) → typing.stmt_step F at (map-Stmt Stmt Block Scoped Scoped S B (bare y)) scope ≡ Ok after
      → Extends scope after × RunKeeps scope after (stmt_step w call here (map-Stmt Stmt Block Runs Runs X R (bare y))) (stmt_checked otherwise w checked here (map-Stmt Stmt Block Runs Runs XC RC (bare y)))
  layer (Stmt-F.Var kind e) scope after h = var_keeps kind e scope after h
  layer (Stmt-F.SetLocal n e) scope after h = local_keeps n e scope after h
  layer (Stmt-F.SetVariable n e) scope after h = variable_keeps n e scope after h
  layer (Stmt-F.If e x y) scope after h = if_form e x y scope after h
  layer (Stmt-F.While e x) scope after h = while_form e x scope after h
  layer Stmt-F.Return scope after h = return_form scope after h
  layer (Stmt-F.ReturnValue e) scope after h = value_form e scope after h
  layer (Stmt-F.Print e) scope after h = print_form e scope after h
  layer (Stmt-F.Free e) scope after h = free_form e scope after h
  layer (Stmt-F.Call e) scope after h = call_form e scope after h

  abbrev stmts : List Kept → List Stmt
  stmts = map (λ (k : Kept). k.0)

  -- statements one after the other
  all_keep : (ks : List Kept) (scope after : Scope) → in_turn (map S (stmts ks)) scope ≡ Ok after → Extends scope after × RunKeeps scope after (all_of (map X (stmts ks))) (all_of (map XC (stmts ks)))
  all_keep [] scope after h = (same_scope scope after (same_answer h), λ g frame i a. pure_keeps w g (FlowHas w at.result after) (Next frame) (λ l le ty. subst (λ z. have_types w l z frame ≡ true) (same_answer h) (types_later w g l le scope frame a)))
  all_keep (k ∷ ks) scope after h =
      let q = went (S k.0 scope) (in_turn (map S (stmts ks))) after h in
      let one = k.1 scope q.value q.first in
      let rest = all_keep ks q.value after q.further in (
        (one.0.0 ++ rest.0.0, rest.0.1 ∙ ap (λ z. z ++ rest.0.0) one.0.1 ∙ append_assoc scope one.0.0 rest.0.0),
        λ g frame i a.
            bind_keeps w g (FlowHas w at.result q.value) (FlowHas w at.result after) (λ flow. go_on flow (all_of (map X (stmts ks)))) (λ flow. go_on flow (all_of (map XC (stmts ks))))
            (λ flow l le ty f. go_on_keeps w l at.result q.value after flow (all_of (map X (stmts ks))) (all_of (map XC (stmts ks))) f (λ b e. rest.1 l b (in_later w g l at.class here le i) e))
            (X k.0 frame) (XC k.0 frame) (one.1 g frame i a),
      )

  block_layer : (y : Block-F Kept KeptBlock) (scope after : Scope) → typing.block_step (map-Block Stmt Block Scoped Scoped S B (bare_block y)) scope ≡ Ok after
      → RunKeeps scope scope (block_step (map-Block Stmt Block Runs Runs X R (bare_block y))) (block_step (map-Block Stmt Block Runs Runs XC RC (bare_block y)))
  block_layer y scope after h g frame i a =
      let k = all_keep y.statements scope after h in
      bind_keeps w g (FlowHas w at.result after) (FlowHas w at.result scope) (λ flow. pure (leave (length frame) flow)) (λ flow. pure (leave (length frame) flow))
      (λ flow l le ty f. pure_keeps w l (FlowHas w at.result scope) (leave (length frame) flow) (λ o lo to. leave_has w o at.result scope after frame flow (as_many w g scope frame a) k.0 (flow_later w l o at.result after flow lo f)))
      (all_of (map X (stmts y.statements)) frame) (all_of (map XC (stmts y.statements)) frame) (k.1 g frame i a)

  stmt_rolled : (y : Stmt-F Kept KeptBlock) → StmtKeeps (roll-Stmt (bare y))
  stmt_rolled y scope after h =
      let k = layer y scope after (sym (ap (λ (f : Scoped). f scope) (fold-roll-Stmt Scoped Scoped (typing.stmt_step F at) typing.block_step (bare y))) ∙ h) in (
        k.0,
        λ g frame i a. subst (λ (f : Runs). Keeps w g (f frame) (XC (roll-Stmt (bare y)) frame) (FlowHas w at.result after)) (sym (fold-roll-Stmt Runs Runs (stmt_step w call here) block_step (bare y)))
            (subst (λ (f : Runs). Keeps w g (stmt_step w call here (map-Stmt Stmt Block Runs Runs X R (bare y)) frame) (f frame) (FlowHas w at.result after)) (sym (fold-roll-Stmt Runs Runs (stmt_checked otherwise w checked here) block_step (bare y)))
            (k.1 g frame i a)),
      )

  block_rolled : (y : Block-F Kept KeptBlock) → BlockKeeps (roll-Block (bare_block y))
  block_rolled y scope after h g frame i a =
      let k = block_layer y scope after (sym (ap (λ (f : Scoped). f scope) (fold-roll-Block Scoped Scoped (typing.stmt_step F at) typing.block_step (bare_block y))) ∙ h) in
      subst (λ (f : Runs). Keeps w g (f frame) (RC (roll-Block (bare_block y)) frame) (FlowHas w at.result scope)) (sym (fold-roll-Block Runs Runs (stmt_step w call here) block_step (bare_block y)))
      (subst (λ (f : Runs). Keeps w g (block_step (map-Block Stmt Block Runs Runs X R (bare_block y)) frame) (f frame) (FlowHas w at.result scope)) (sym (fold-roll-Block Runs Runs (stmt_checked otherwise w checked here) block_step (bare_block y)))
      (k g frame i a))

  pub stmt_keeps : (s : Stmt) → StmtKeeps s
  stmt_keeps = ind-Stmt StmtKeeps BlockKeeps (λ x y is. subst (λ z. StmtKeeps (roll-Stmt z)) is (stmt_rolled y)) (λ x y is. subst (λ z. BlockKeeps (roll-Block z)) is (block_rolled y))

  pub block_keeps : (b : Block) → BlockKeeps b
  block_keeps = ind-Block StmtKeeps BlockKeeps (λ x y is. subst (λ z. StmtKeeps (roll-Stmt z)) is (stmt_rolled y)) (λ x y is. subst (λ z. BlockKeeps (roll-Block z)) is (block_rolled y))
