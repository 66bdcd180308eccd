-- Expressions that are well typed keep the objects typed and answer values of their types, and no test in them fails.
use Rattle.std.proofs.Common.{◌≡◌, ℕ, Bool, true, false, not, ◌&&◌, nat_le, List, [], ◌∷◌, length, map, Option, Some, None, slice_get, Ok, refl, sym, ap, ◌∙◌, subst, true≢false}
use Rattle.std.specs.Prelude.{is_some}
use Rattle.som_model.specs.declared.key.ClassKey.{ClassKey}
use Rattle.som_model.specs.declared.key.MethodRef.{MethodRef}
use Rattle.som_model.specs.declared.key.ValueType.{ValueType}
use Rattle.som_model.specs.declared.key.ValueType.TheVariants as types
use Rattle.som_model.specs.declared.syntax.Expr.{Expr, roll-Expr, map-Expr, ind-Expr, fold-roll-Expr}
use Rattle.som_model.specs.declared.syntax.Expr.TheOpen.{Expr-F}
use Rattle.som_model.specs.declared.class.Sig.{Sig}
use Rattle.som_model.specs.declared.class.Variable.{Variable}
use Rattle.som_model.specs.declared.limits.TheConstants.{MAX_PARAMETERS}
use Rattle.som_model.specs.declared.program.Fault.TheVariants as faults
use Rattle.som_model.specs.Lists.{Mem, some}
use Rattle.som_model.specs.Keys.{same_key}
use Rattle.som_model.specs.Steps.{◌>>=◌}
use Rattle.som_model.specs.Class.{Class}
use Rattle.som_model.specs.Kernel.{som_object, som_class_mgr, an_object}
use Rattle.som_model.specs.Rules.{is_void}
use Rattle.som_semantics.specs.World.{World}
use Rattle.som_semantics.specs.State.{Value, Long, Boolean, Str, Nil, To, Ref, Object, ClassObject, Manager, Heap, Instance, Variables, Offset, Lookup, class_of, is_live, variables_of}
use Rattle.som_semantics.specs.Runs.{Act, IsLater}
use Rattle.som_semantics.specs.Acts.{pure, tried, asked, later_self, later_on}
use Rattle.som_semantics.specs.Acts as acts
use Rattle.som_semantics.specs.Values.{unary, unary_op, binary, binary_op, host, cast, isa}
use Rattle.som_semantics.specs.Calls.{Calls, Here, class_here, parent_at, offset_call, named_call, dispatch_call, parent_call, parents_calls}
use Rattle.som_semantics.specs.Expressions.{Frame, Evals, local_in, read, each_of, either, class_object, new_on, proxy_on, expr_step, eval}
use Rattle.som_model.specs.Typing.{ClassFacts, CodePlace, ExprType, Of, PlainNil, Typed, Ruled, needs, there, gives, is_nothing, is_reference, descends_to, fits, all_fit, kind_is_known, value, value_of, values, unary_type, binary_type, host_type, cast_type, isa_type, proxy_type, offset_call_type, named_call_type, parent_call_type, parents_call_type, own_variable, expr_type}
use Rattle.som_model.specs.Typing as typing
use Rattle.som_model.proofs.KeyLaws.{both}
use Rattle.som_model.proofs.StepLaws.{went, held, same_answer, found}
use Rattle.som_model.proofs.ListLaws.{is_false}
use Rattle.som_model_laws.proofs.Lists.{get_mem}
use Rattle.som_type_soundness.specs.Values.{is_there, is_value, has_type, have_types, are_of_one_kind, is_long, unary_takes, binary_takes}
use Rattle.som_type_soundness.specs.Heaps.{AreTyped}
use Rattle.som_type_soundness.specs.Preserving.{IsOf}
use Rattle.som_type_soundness.specs.Checks.{is_class, is_kind, of_class, stands, has_slot, has_parent, has_parents}
use Rattle.som_type_soundness.specs.Checked.{check, such_that, expr_checked, checked_eval}
use Rattle.som_type_soundness.proofs.Keeping.{Answers, Keeps, bind_keeps, pure_keeps, tried_keeps, asked_keeps, check_keeps, value_keeps}
use Rattle.som_type_soundness.proofs.Heaps.{both_true, some_is, type_later, types_later}
use Rattle.som_type_soundness.proofs.Facts.{IsSound, InClass, facts_of}
use Rattle.som_type_soundness.proofs.Values.{AreOf, value_at, fitting, all_fitting, descending, receiving, referring, of_long}
use Rattle.som_type_soundness.proofs.Operators.{answers_if, unary_typed, operands, is_later}
use Rattle.som_type_soundness.proofs.Calls.{Has, CallsKeep, casts, isas, values_exist, class_keeps, proxy_keeps, offset_keeps, named_keeps, dispatch_keeps, parent_keeps, parents_keeps, new_keeps}

abbrev parent_in : Option Class → ℕ → Option ClassKey
parent_in None n = None
parent_in (Some c) n = slice_get c.decl.face.parents n

abbrev pub kind_in : Option Class → ℕ → Option ValueType
kind_in None n = None
kind_in (Some c) n = slice_get (map (λ (v : Variable). v.kind) c.decl.variables) n

abbrev proper_in : ClassFacts → Option Class → ClassKey → Bool
proper_in w None k = false
proper_in w (Some c) k = not (same_key k c.key) && w.is_a c.key k

abbrev variables_in : Option Instance → Variables
variables_in o = elim o [ None ↦ (λ k n. Nil) | Some t ↦ t.variables ]

module _ (w : World) where
  there_one : (h : Heap) (t : ValueType) (v : Value) → has_type w h t v ≡ true → is_value w h v ≡ true
  there_one h (types.Class c) (To r) e = (both (is_there w h r) (w.is_a (class_of w h r) c) e).0
  there_one h types.Void (To r) e = absurd (true≢false (sym e))
  there_one h types.Long (To r) e = absurd (true≢false (sym e))
  there_one h types.Boolean (To r) e = absurd (true≢false (sym e))
  there_one h types.Str (To r) e = absurd (true≢false (sym e))
  there_one h t Nil e = refl
  there_one h t (Long z) e = refl
  there_one h t (Boolean z) e = refl
  there_one h t (Str z) e = refl

  is_one : (h : Heap) (t : ExprType) (v : Value) → IsOf w t v h → is_value w h v ≡ true
  is_one h (Of t) v i = there_one h t v i
  is_one h PlainNil v i = ap (is_value w h) i

  pub are_later : (h g : Heap) (ts : List ExprType) (vs : List Value) → IsLater h g → AreOf w ts vs h → AreOf w ts vs g
  are_later h g [] [] le i = tt
  are_later h g (Of t ∷ ts) (v ∷ vs) le i = (type_later w h g le t v i.0, are_later h g ts vs le i.1)
  are_later h g (PlainNil ∷ ts) (v ∷ vs) le i = (i.0, are_later h g ts vs le i.1)
  are_later h g [] (v ∷ vs) le i = absurd i
  are_later h g (t ∷ ts) [] le i = absurd i

  pub in_later : (h g : Heap) (c : Option Class) (here : Here) → IsLater h g → InClass w c here h → InClass w c here g
  in_later h g None here le i = tt
  in_later h g (Some c) here le i = (i.0, i.1, type_later w h g le (types.Class c.key) here.me i.2, i.3)

  -- self stands for an object of the class whose body runs
  pub in_place : (h : Heap) (c : Class) (here : Here) → InClass w (Some c) here h → stands w (class_here here) here.me h ≡ true
  in_place h c here i =
      subst (λ k. stands w k here.me h ≡ true) (sym i.1)
      (both_true _ (has_type w h (types.Class c.key) here.me) (ap (λ (v : Value). Rattle.som_type_soundness.specs.Values.is_reference v) i.3.1) i.2)

  -- a variable of the class, and its slot in self
  pub slot_in : (h : Heap) (o : Option Class) (here : Here) (n : ℕ) (kind : ValueType) → kind_in o n ≡ Some kind → InClass w o here h
      → (has_slot w (class_here here) n here.me h ≡ true) × (w.variable (class_here here) n ≡ kind)
  slot_in h None here n kind e i = absurd (let z = e in cc)
  slot_in h (Some c) here n kind e i =
      let v = i.0.variables n kind e in
      let same : w.variable (class_here here) n ≡ kind = ap (λ k. w.variable k n) i.1 ∙ v.0 in
      (both_true (stands w (class_here here) here.me h) (not (is_void (w.variable (class_here here) n))) (in_place h c here i) (ap (λ k. not (is_void k)) same ∙ ap not v.1), same)

module _ (w : World) (known : ClassKey → Bool) (sound : IsSound w known) where
  -- what a slot holds is of the variable's type
  variables_typed : (h : Heap) (k : ClassKey) (n : ℕ) (r : Ref) → AreTyped w h → has_slot w k n (To r) h ≡ true → has_type w h (w.variable k n) (variables_of h r k n) ≡ true
  variables_typed h k n (Object i) t e =
      let p = both (stands w k (To (Object i)) h) (not (is_void (w.variable k n))) e in
      let x = some_is (slice_get h.objects i) (both (is_some (slice_get h.objects i)) (w.is_a (class_of w h (Object i)) k) p.0).0 in
      ap (λ (o : Option Instance). has_type w h (w.variable k n) (variables_in o k n)) x.1 ∙ t.variables i x.0 k n x.1
  variables_typed h k n (ClassObject c) t e = t.statics c k n
  variables_typed h k n Manager t e =
      let p = both (stands w k (To Manager) h) (not (is_void (w.variable k n))) e in
      absurd (true≢false (sym p.1 ∙ ap not (sound.slots k n p.0)))

  pub reads_typed : (h : Heap) (k : ClassKey) (n : ℕ) (v : Value) → AreTyped w h → has_slot w k n v h ≡ true → Answers (read k n v h) (λ u. has_type w h (w.variable k n) u ≡ true)
  reads_typed h k n (To r) t e = answers_if (is_live h r) (variables_of h r k n) faults.Freed (λ u. has_type w h (w.variable k n) u ≡ true) (variables_typed h k n r t e)
  reads_typed h k n Nil t e = tt
  reads_typed h k n (Long z) t e = tt
  reads_typed h k n (Boolean z) t e = tt
  reads_typed h k n (Str z) t e = tt

  long_passes : (h : Heap) (t : ExprType) (v : Value) → typing.is_long t ≡ true → IsOf w t v h → is_long v ≡ true
  long_passes h t v e i = ap is_long (of_long w known sound h t v e i).1

  module _ (otherwise : Act (Unit {0})) (call checked : Calls) (keep : CallsKeep w call checked) (here : Here) (at : CodePlace) (scope : List ValueType) where
    abbrev F : ClassFacts
    F = facts_of w known

    abbrev T : Expr → Typed
    T = expr_type F at scope

    abbrev E : Expr → Evals
    E = eval w call here

    abbrev C : Expr → Evals
    C = checked_eval otherwise w checked here

    -- an expression keeps the objects typed, and answers a value of its type
    abbrev pub ExprKeeps : Expr → Type 0
    ExprKeeps e = (t : ExprType) → T e ≡ Ok t → (h : Heap) (frame : Frame) → InClass w at.class here h → have_types w h scope frame ≡ true → Keeps w h (E e frame) (C e frame) (IsOf w t)

    abbrev Kept : Type 0
    Kept = (e : Expr) × ExprKeeps e

    abbrev exprs : List Kept → List Expr
    exprs = map (λ (k : Kept). k.0)

    abbrev bare : Expr-F Kept → Expr-F Expr
    bare = map-Expr Kept Expr (λ (k : Kept). k.0)

    -- a part that has a value
    pub part_keeps : (e : Expr) → ExprKeeps e → (t : ExprType) → value (T e) ≡ Ok t → (h : Heap) (frame : Frame) → InClass w at.class here h → have_types w h scope frame ≡ true → Keeps w h (E e frame) (C e frame) (IsOf w t)
    part_keeps e k t f h frame i a =
        let q = went (T e) value_of t f in
        let d = held 20 (not (is_nothing q.value)) (Ok q.value) t q.further in
        k t (q.first ∙ ap Ok (same_answer d.1)) h frame i a

    parts_keep : (ks : List Kept) (ts : List ExprType) → values (map T (exprs ks)) ≡ Ok ts → (h : Heap) (frame : Frame) → InClass w at.class here h → have_types w h scope frame ≡ true
        → Keeps w h (each_of (map E (exprs ks)) frame) (each_of (map C (exprs ks)) frame) (AreOf w ts)
    parts_keep [] ts f h frame i a = subst (λ z. Keeps w h (pure []) (pure []) (AreOf w z)) (same_answer f) (pure_keeps w h (AreOf w []) [] (λ g le ty. tt))
    parts_keep (k ∷ ks) ts f h frame i a =
        let q = went (value (T k.0)) (λ t. values (map T (exprs ks)) >>= λ ts. Ok (t ∷ ts)) ts f in
        let qs = went (values (map T (exprs ks))) (λ ts. Ok (q.value ∷ ts)) ts q.further in
        let rest : Evals → (Frame → Act (List Value)) → Act (List Value) = λ e es. acts.◌>>=◌ (e frame) (λ v. acts.◌>>=◌ (es frame) (λ vs. pure (v ∷ vs))) in
        subst (λ z. Keeps w h (rest (E k.0) (each_of (map E (exprs ks)))) (rest (C k.0) (each_of (map C (exprs ks)))) (AreOf w z)) (same_answer qs.further)
        (bind_keeps w h (IsOf w q.value) (AreOf w (q.value ∷ qs.value)) (λ v. acts.◌>>=◌ (each_of (map E (exprs ks)) frame) (λ vs. pure (v ∷ vs))) (λ v. acts.◌>>=◌ (each_of (map C (exprs ks)) frame) (λ vs. pure (v ∷ vs)))
        (λ v g le ty j. bind_keeps w g (AreOf w qs.value) (AreOf w (q.value ∷ qs.value)) (λ vs. pure (v ∷ vs)) (λ vs. pure (v ∷ vs))
        (λ vs g2 le2 ty2 js. pure_keeps w g2 (AreOf w (q.value ∷ qs.value)) (v ∷ vs) (λ l lf tf. (is_later w known sound g l q.value v (later_on g g2 l le2 lf) j, are_later w g2 l qs.value vs lf js)))
        (each_of (map E (exprs ks)) frame) (each_of (map C (exprs ks)) frame) (parts_keep ks qs.value qs.first g frame (in_later w h g at.class here le i) (types_later w h g le scope frame a)))
        (E k.0 frame) (C k.0 frame) (part_keeps k.0 k.1 q.value q.first h frame i a))

    -- parts of which each is tested to be a value keep the objects typed, and answer values of their types
    parts_exist : (ks : List Kept) (ts : List ExprType) → values (map T (exprs ks)) ≡ Ok ts → (h : Heap) (frame : Frame) → InClass w at.class here h → have_types w h scope frame ≡ true
        → Keeps w h (each_of (map E (exprs ks)) frame) (each_of (map (such_that otherwise (λ v g. is_value w g v)) (map C (exprs ks))) frame) (AreOf w ts)
    parts_exist [] ts f h frame i a = subst (λ z. Keeps w h (pure []) (pure []) (AreOf w z)) (same_answer f) (pure_keeps w h (AreOf w []) [] (λ g le ty. tt))
    parts_exist (k ∷ ks) ts f h frame i a =
        let q = went (value (T k.0)) (λ t. values (map T (exprs ks)) >>= λ ts. Ok (t ∷ ts)) ts f in
        let qs = went (values (map T (exprs ks))) (λ ts. Ok (q.value ∷ ts)) ts q.further in
        let test : Value → Heap → Bool = λ v g. is_value w g v in
        let others : Act (List Value) = each_of (map E (exprs ks)) frame in
        let tested : Act (List Value) = each_of (map (such_that otherwise test) (map C (exprs ks))) frame in
        let rest : Act Value → Act (List Value) → Act (List Value) = λ e es. acts.◌>>=◌ e (λ v. acts.◌>>=◌ es (λ vs. pure (v ∷ vs))) in
        subst (λ z. Keeps w h (rest (E k.0 frame) others) (rest (such_that otherwise test (C k.0) frame) tested) (AreOf w z)) (same_answer qs.further)
        (bind_keeps w h (IsOf w q.value) (AreOf w (q.value ∷ qs.value)) (λ v. acts.◌>>=◌ others (λ vs. pure (v ∷ vs))) (λ v. acts.◌>>=◌ tested (λ vs. pure (v ∷ vs)))
        (λ v g le ty j. bind_keeps w g (AreOf w qs.value) (AreOf w (q.value ∷ qs.value)) (λ vs. pure (v ∷ vs)) (λ vs. pure (v ∷ vs))
        (λ vs g2 le2 ty2 js. pure_keeps w g2 (AreOf w (q.value ∷ qs.value)) (v ∷ vs) (λ l lf tf. (is_later w known sound g l q.value v (later_on g g2 l le2 lf) j, are_later w g2 l qs.value vs lf js)))
        others tested (parts_exist ks qs.value qs.first g frame (in_later w h g at.class here le i) (types_later w h g le scope frame a)))
        (E k.0 frame) (such_that otherwise test (C k.0) frame)
        (value_keeps w otherwise h (IsOf w q.value) test (E k.0 frame) (C k.0 frame) (λ v g le ty j. is_one w g q.value v j) (part_keeps k.0 k.1 q.value q.first h frame i a)))

    kind_there : (kind : ValueType) → kind_is_known F kind ≡ true → (h : Heap) → is_kind w kind h ≡ true
    kind_there (types.Class k) e h = sound.class k e
    kind_there types.Void e h = refl
    kind_there types.Long e h = refl
    kind_there types.Boolean e h = refl
    kind_there types.Str e h = refl

    known_class : (k : ClassKey) (h : Heap) → known k ≡ true → (g : Heap) → IsLater h g → AreTyped w g → is_class w k g ≡ true
    known_class k h e g le ty = sound.class k e

    -- the forms that stand alone, and those with parts
    local_keeps : (n : ℕ) (t : ExprType) → typing.local_type scope n ≡ Ok t → (h : Heap) (frame : Frame) → have_types w h scope frame ≡ true
        → Keeps w h (pure (local_in (slice_get frame n))) (acts.◌>>◌ (check otherwise (λ g. is_some (slice_get frame n))) (pure (local_in (slice_get frame n)))) (IsOf w t)
    local_keeps n t e h frame a =
        let q = went (there 16 (slice_get scope n)) (λ kind. Ok (Of kind)) t e in
        let v = value_at w h scope frame n q.value a (found 16 (slice_get scope n) q.value q.first) in
        check_keeps w otherwise h (IsOf w t) (λ g. is_some (slice_get frame n)) (pure (local_in (slice_get frame n))) (pure (local_in (slice_get frame n))) (λ g le ty. ap is_some v.1)
        (pure_keeps w h (IsOf w t) (local_in (slice_get frame n)) (λ g le ty. subst (λ z. IsOf w z (local_in (slice_get frame n)) g) (same_answer q.further) (type_later w h g le q.value (local_in (slice_get frame n)) (ap (λ (o : Option Value). has_type w h q.value (local_in o)) v.1 ∙ v.2))))

    self_keeps : (t : ExprType) (o : Option Class) → (there 20 o >>= λ c. Ok (Of (types.Class c.key))) ≡ Ok t → (h : Heap) → InClass w o here h
        → Keeps w h (pure here.me) (acts.◌>>◌ (check otherwise (stands w (class_here here) here.me)) (pure here.me)) (IsOf w t)
    self_keeps t None e h i = absurd (let z = e in cc)
    self_keeps t (Some c) e h i =
        check_keeps w otherwise h (IsOf w t) (stands w (class_here here) here.me) (pure here.me) (pure here.me) (λ g le ty. in_place w g c here (in_later w h g (Some c) here le i))
        (pure_keeps w h (IsOf w t) here.me (λ g le ty. subst (λ z. IsOf w z here.me g) (same_answer e) (type_later w h g le (types.Class c.key) here.me i.2)))

    variable_keeps : (n : ℕ) (t : ExprType) → (own_variable at n >>= λ kind. Ok (Of kind)) ≡ Ok t → (h : Heap) → InClass w at.class here h
        → Keeps w h (asked here.place (read (class_here here) n here.me)) (acts.◌>>◌ (check otherwise (has_slot w (class_here here) n here.me)) (asked here.place (read (class_here here) n here.me))) (IsOf w t)
    variable_keeps n t e h i =
        let q = went (own_variable at n) (λ kind. Ok (Of kind)) t e in
        let kind = found 16 (kind_in at.class n) q.value q.first in
        check_keeps w otherwise h (IsOf w t) (has_slot w (class_here here) n here.me) (asked here.place (read (class_here here) n here.me)) (asked here.place (read (class_here here) n here.me))
        (λ g le ty. (slot_in w g at.class here n q.value kind (in_later w h g at.class here le i)).0)
        (asked_keeps w h (IsOf w t) here.place (read (class_here here) n here.me) (λ g le ty.
        let s = slot_in w g at.class here n q.value kind (in_later w h g at.class here le i) in
        subst (λ z. Answers (read (class_here here) n here.me g) (λ u. IsOf w z u g)) (same_answer q.further)
        (subst (λ z. Answers (read (class_here here) n here.me g) (λ u. has_type w g z u ≡ true)) s.1 (reads_typed g (class_here here) n here.me ty s.0))))

    unary_keeps : (op : ℕ) (k : Kept) (t : ExprType) → (value (T k.0) >>= unary_type op) ≡ Ok t → (h : Heap) (frame : Frame) → InClass w at.class here h → have_types w h scope frame ≡ true
        → Keeps w h (expr_step w call here (Expr-F.Unary op (E k.0)) frame) (expr_step w checked here (Expr-F.Unary op (such_that otherwise (λ v g. unary_takes op v) (C k.0))) frame) (IsOf w t)
    unary_keeps op k t e h frame i a =
        let q = went (value (T k.0)) (unary_type op) t e in
        bind_keeps w h (IsOf w q.value) (IsOf w t) (λ v. tried here.place (unary (unary_op op) v)) (λ v. tried here.place (unary (unary_op op) v))
        (λ v g le ty j. tried_keeps w g (IsOf w t) here.place (unary (unary_op op) v) (λ l lf tf. (unary_typed w known sound l op q.value t v q.further (is_later w known sound g l q.value v lf j)).1))
        (E k.0 frame) (such_that otherwise (λ v g. unary_takes op v) (C k.0) frame)
        (value_keeps w otherwise h (IsOf w q.value) (λ v g. unary_takes op v) (E k.0 frame) (C k.0 frame) (λ v g le ty j. (unary_typed w known sound g op q.value t v q.further j).0) (part_keeps k.0 k.1 q.value q.first h frame i a))

    binary_keeps : (op : ℕ) (k l : Kept) (t : ExprType) → (value (T k.0) >>= λ s. value (T l.0) >>= binary_type op s) ≡ Ok t → (h : Heap) (frame : Frame) → InClass w at.class here h → have_types w h scope frame ≡ true
        → Keeps w h (expr_step w call here (Expr-F.Binary op (E k.0) (E l.0)) frame) (expr_checked otherwise w checked here (Expr-F.Binary op (C k.0) (C l.0)) frame) (IsOf w t)
    binary_keeps op k l t e h frame i a =
        let q = went (value (T k.0)) (λ s. value (T l.0) >>= binary_type op s) t e in
        let u = went (value (T l.0)) (binary_type op q.value) t q.further in
        let o = operands w known sound q.value u.value t op u.further in
        let test : Value → Value → Heap → Bool = λ x v g. binary_takes op v && are_of_one_kind x v in
        let right : Value → Act Value = λ x. such_that otherwise (test x) (C l.0) frame in
        let both_of : Value → Value → Act Value = λ x y. tried here.place (binary (binary_op op) x y) in
        bind_keeps w h (IsOf w q.value) (IsOf w t) (λ x. either (binary_op op) x (E l.0 frame) (both_of x)) (λ x. either (binary_op op) x (right x) (both_of x))
        (λ x g le ty j. o.keeps g here.place x (E l.0 frame) (right x) j
        (value_keeps w otherwise g (IsOf w u.value) (test x) (E l.0 frame) (C l.0 frame) (λ v f lf tf jf. o.right f x v (is_later w known sound g f q.value x lf j) jf)
        (part_keeps l.0 l.1 u.value u.first g frame (in_later w h g at.class here le i) (types_later w h g le scope frame a))))
        (E k.0 frame) (such_that otherwise (λ v g. binary_takes op v) (C k.0) frame)
        (value_keeps w otherwise h (IsOf w q.value) (λ v g. binary_takes op v) (E k.0 frame) (C k.0 frame) (λ v g le ty j. o.left g v j) (part_keeps k.0 k.1 q.value q.first h frame i a))

    new_form : (k : ClassKey) (t : ExprType) → typing.new_type F k ≡ Ok t → (h : Heap) → Keeps w h (new_on w call here.place k) (acts.◌>>◌ (check otherwise (is_class w k)) (new_on w checked here.place k)) (IsOf w t)
    new_form k t e h =
        let d = held 16 (known k) (Ok (Of (types.Class k))) t e in
        check_keeps w otherwise h (IsOf w t) (is_class w k) (new_on w call here.place k) (new_on w checked here.place k) (known_class k h d.0)
        (subst (λ z. Keeps w h (new_on w call here.place k) (new_on w checked here.place k) (IsOf w z)) (same_answer d.1) (new_keeps w known sound call checked keep h here.place k (sound.class k d.0)))

    class_form : (k : ClassKey) (t : ExprType) → typing.class_type F k ≡ Ok t → (h : Heap) → Keeps w h (class_object k) (acts.◌>>◌ (check otherwise (is_class w k)) (class_object k)) (IsOf w t)
    class_form k t e h =
        let d = held 16 (known k) (Ok (Of (types.Class (w.meta k)))) t e in
        check_keeps w otherwise h (IsOf w t) (is_class w k) (class_object k) (class_object k) (known_class k h d.0)
        (subst (λ z. Keeps w h (class_object k) (class_object k) (IsOf w z)) (same_answer d.1) (class_keeps w known sound h k (sound.class k d.0)))

    cast_form : (c : ClassKey) (k : Kept) (t : ExprType) → (value (T k.0) >>= cast_type F c) ≡ Ok t → (h : Heap) (frame : Frame) → InClass w at.class here h → have_types w h scope frame ≡ true
        → Keeps w h (expr_step w call here (Expr-F.Cast c (E k.0)) frame)
        (acts.◌>>◌ (check otherwise (is_class w c)) (expr_step w checked here (Expr-F.Cast c (such_that otherwise (λ v g. has_type w g an_object v) (C k.0))) frame)) (IsOf w t)
    cast_form c k t e h frame i a =
        let q = went (value (T k.0)) (cast_type F c) t e in
        let d = held 16 (known c) (gives (is_reference q.value) (types.Class c)) t q.further in
        let r = held 17 (is_reference q.value) (Ok (Of (types.Class c))) t d.1 in
        let refers : (v : Value) (g : Heap) → IsLater h g → AreTyped w g → IsOf w q.value v g → has_type w g an_object v ≡ true = λ v g le ty j. referring w known sound g q.value v ty r.0 j in
        let n : Act Value = such_that otherwise (λ v g. has_type w g an_object v) (C k.0) frame in
        check_keeps w otherwise h (IsOf w t) (is_class w c) (expr_step w call here (Expr-F.Cast c (E k.0)) frame) (expr_step w checked here (Expr-F.Cast c (such_that otherwise (λ v g. has_type w g an_object v) (C k.0))) frame) (known_class c h d.0)
        (bind_keeps w h (IsOf w q.value) (IsOf w t) (λ v. asked here.place (λ g. cast w c g v)) (λ v. asked here.place (λ g. cast w c g v))
        (λ v g le ty j. asked_keeps w g (IsOf w t) here.place (λ l. cast w c l v) (λ l lf tf.
        subst (λ z. Answers (cast w c l v) (λ u. IsOf w z u l)) (same_answer r.1) (casts w l c v (refers v l (later_on h g l le lf) tf (is_later w known sound g l q.value v lf j)))))
        (E k.0 frame) n (value_keeps w otherwise h (IsOf w q.value) (λ v g. has_type w g an_object v) (E k.0 frame) (C k.0 frame) refers (part_keeps k.0 k.1 q.value q.first h frame i a)))

    isa_form : (c : ClassKey) (k : Kept) (t : ExprType) → (value (T k.0) >>= isa_type F c) ≡ Ok t → (h : Heap) (frame : Frame) → InClass w at.class here h → have_types w h scope frame ≡ true
        → Keeps w h (expr_step w call here (Expr-F.Isa c (E k.0)) frame)
        (acts.◌>>◌ (check otherwise (is_class w c)) (expr_step w checked here (Expr-F.Isa c (such_that otherwise (λ v g. has_type w g an_object v) (C k.0))) frame)) (IsOf w t)
    isa_form c k t e h frame i a =
        let q = went (value (T k.0)) (isa_type F c) t e in
        let d = held 16 (known c) (gives (is_reference q.value) types.Boolean) t q.further in
        let r = held 17 (is_reference q.value) (Ok (Of types.Boolean)) t d.1 in
        let n : Act Value = such_that otherwise (λ v g. has_type w g an_object v) (C k.0) frame in
        check_keeps w otherwise h (IsOf w t) (is_class w c) (expr_step w call here (Expr-F.Isa c (E k.0)) frame) (expr_step w checked here (Expr-F.Isa c (such_that otherwise (λ v g. has_type w g an_object v) (C k.0))) frame) (known_class c h d.0)
        (bind_keeps w h (IsOf w q.value) (IsOf w t) (λ v. asked here.place (λ g. isa w c g v)) (λ v. asked here.place (λ g. isa w c g v))
        (λ v g le ty j. asked_keeps w g (IsOf w t) here.place (λ l. isa w c l v) (λ l lf tf. subst (λ z. Answers (isa w c l v) (λ u. IsOf w z u l)) (same_answer r.1) (isas w l c v)))
        (E k.0 frame) n (value_keeps w otherwise h (IsOf w q.value) (λ v g. has_type w g an_object v) (E k.0 frame) (C k.0 frame) (λ v g le ty j. referring w known sound g q.value v ty r.0 j) (part_keeps k.0 k.1 q.value q.first h frame i a)))

    proxy_form : (c : ClassKey) (k : Kept) (t : ExprType) → (value (T k.0) >>= proxy_type F c) ≡ Ok t → (h : Heap) (frame : Frame) → InClass w at.class here h → have_types w h scope frame ≡ true
        → Keeps w h (expr_step w call here (Expr-F.Proxy c (E k.0)) frame)
        (acts.◌>>◌ (check otherwise (is_class w c)) (expr_step w checked here (Expr-F.Proxy c (such_that otherwise (of_class w c) (C k.0))) frame)) (IsOf w t)
    proxy_form c k t e h frame i a =
        let q = went (value (T k.0)) (proxy_type F c) t e in
        let d = held 16 (known c) (gives (fits F (types.Class c) q.value) (types.Class c)) t q.further in
        let r = held 17 (fits F (types.Class c) q.value) (Ok (Of (types.Class c))) t d.1 in
        let n : Act Value = such_that otherwise (of_class w c) (C k.0) frame in
        check_keeps w otherwise h (IsOf w t) (is_class w c) (expr_step w call here (Expr-F.Proxy c (E k.0)) frame) (expr_step w checked here (Expr-F.Proxy c (such_that otherwise (of_class w c) (C k.0))) frame) (known_class c h d.0)
        (bind_keeps w h (IsOf w q.value) (IsOf w t) (λ v. proxy_on w here.place c v) (λ v. proxy_on w here.place c v)
        (λ v g le ty j. subst (λ z. Keeps w g (proxy_on w here.place c v) (proxy_on w here.place c v) (IsOf w z)) (same_answer r.1) (proxy_keeps w known sound g here.place c v d.0 (fitting w known sound g (types.Class c) q.value v r.0 j)))
        (E k.0 frame) n (value_keeps w otherwise h (IsOf w q.value) (of_class w c) (E k.0 frame) (C k.0 frame) (λ v g le ty j. fitting w known sound g (types.Class c) q.value v r.0 j) (part_keeps k.0 k.1 q.value q.first h frame i a)))

    offset_form : (r : MethodRef) (k : Kept) (ks : List Kept) (t : ExprType) → (value (T k.0) >>= λ on. values (map T (exprs ks)) >>= offset_call_type F r on) ≡ Ok t → (h : Heap) (frame : Frame) → InClass w at.class here h → have_types w h scope frame ≡ true
        → Keeps w h (expr_step w call here (Expr-F.OffsetCall r (E k.0) (map E (exprs ks))) frame) (expr_step w checked here (Expr-F.OffsetCall r (such_that otherwise (of_class w r.class) (C k.0)) (map C (exprs ks))) frame) (IsOf w t)
    offset_form r k ks t e h frame i a =
        let q = went (value (T k.0)) (λ on. values (map T (exprs ks)) >>= offset_call_type F r on) t e in
        let qs = went (values (map T (exprs ks))) (offset_call_type F r q.value) t q.further in
        let g = went (there 16 (w.sig (w.owner r))) (λ sig. needs 17 (descends_to F r.class q.value) (needs 18 (all_fit F sig.params qs.value) (Ok (Of sig.result)))) t qs.further in
        let sig = g.value in
        let d = held 17 (descends_to F r.class q.value) (needs 18 (all_fit F sig.params qs.value) (Ok (Of sig.result))) t g.further in
        let f = held 18 (all_fit F sig.params qs.value) (Ok (Of sig.result)) t d.1 in
        let is : w.sig (w.owner r) ≡ Some sig = found 16 (w.sig (w.owner r)) sig g.first in
        let further : Calls → (Frame → Act (List Value)) → Value → Act Value = λ c es on. acts.◌>>=◌ (es frame) (λ vs. offset_call w c here.place Offset r on vs) in
        bind_keeps w h (IsOf w q.value) (IsOf w t) (further call (each_of (map E (exprs ks)))) (further checked (each_of (map C (exprs ks))))
        (λ on g2 le ty j. bind_keeps w g2 (AreOf w qs.value) (IsOf w t) (λ vs. offset_call w call here.place Offset r on vs) (λ vs. offset_call w checked here.place Offset r on vs)
        (λ vs g3 le3 ty3 js. subst (λ z. Keeps w g3 (offset_call w call here.place Offset r on vs) (offset_call w checked here.place Offset r on vs) (IsOf w z)) (same_answer f.1)
        (offset_keeps w known sound call checked keep g3 here.place Offset r on vs sig is (descending w known sound g3 r.class q.value on d.0 (is_later w known sound g2 g3 q.value on le3 j)) (all_fitting w known sound g3 sig.params qs.value vs f.0 js)))
        (each_of (map E (exprs ks)) frame) (each_of (map C (exprs ks)) frame) (parts_keep ks qs.value qs.first g2 frame (in_later w h g2 at.class here le i) (types_later w h g2 le scope frame a)))
        (E k.0 frame) (such_that otherwise (of_class w r.class) (C k.0) frame)
        (value_keeps w otherwise h (IsOf w q.value) (of_class w r.class) (E k.0 frame) (C k.0 frame) (λ v g2 le ty j. descending w known sound g2 r.class q.value v d.0 j) (part_keeps k.0 k.1 q.value q.first h frame i a))

    -- calls by name, with what is done with the receiver and the arguments
    named_form : (kind : ValueType) (does : Calls → Value → List Value → Act Value) (k : Kept) (ks : List Kept) (t : ExprType)
        → ((g : Heap) (on : Value) (vs : List Value) → has_type w g an_object on ≡ true → (ts : List ExprType) → AreOf w ts vs g → Keeps w g (does call on vs) (does checked on vs) (Has w kind))
        → (value (T k.0) >>= λ on. values (map T (exprs ks)) >>= named_call_type F kind on) ≡ Ok t → (h : Heap) (frame : Frame) → InClass w at.class here h → have_types w h scope frame ≡ true
        → Keeps w h (acts.◌>>=◌ (E k.0 frame) (λ on. acts.◌>>=◌ (each_of (map E (exprs ks)) frame) (λ vs. does call on vs)))
        (acts.◌>>◌ (check otherwise (is_kind w kind)) (acts.◌>>=◌ (such_that otherwise (λ v g. has_type w g an_object v) (C k.0) frame) (λ on. acts.◌>>=◌ (each_of (map (such_that otherwise (λ v g. is_value w g v)) (map C (exprs ks))) frame) (λ vs. does checked on vs)))) (IsOf w t)
    named_form kind does k ks t keeps e h frame i a =
        let q = went (value (T k.0)) (λ on. values (map T (exprs ks)) >>= named_call_type F kind on) t e in
        let qs = went (values (map T (exprs ks))) (named_call_type F kind q.value) t q.further in
        let b = held 16 (kind_is_known F kind) (needs 17 (typing.is_class q.value) (needs 18 (nat_le (length qs.value) MAX_PARAMETERS) (Ok (Of kind)))) t qs.further in
        let d = held 17 (typing.is_class q.value) (needs 18 (nat_le (length qs.value) MAX_PARAMETERS) (Ok (Of kind))) t b.1 in
        let f = held 18 (nat_le (length qs.value) MAX_PARAMETERS) (Ok (Of kind)) t d.1 in
        let plain : Act Value = acts.◌>>=◌ (E k.0 frame) (λ on. acts.◌>>=◌ (each_of (map E (exprs ks)) frame) (λ vs. does call on vs)) in
        let tested : Act (List Value) = each_of (map (such_that otherwise (λ v g. is_value w g v)) (map C (exprs ks))) frame in
        check_keeps w otherwise h (IsOf w t) (is_kind w kind) plain (acts.◌>>=◌ (such_that otherwise (λ v g. has_type w g an_object v) (C k.0) frame) (λ on. acts.◌>>=◌ tested (λ vs. does checked on vs))) (λ g le ty. kind_there kind b.0 g)
        (bind_keeps w h (IsOf w q.value) (IsOf w t) (λ on. acts.◌>>=◌ (each_of (map E (exprs ks)) frame) (λ vs. does call on vs)) (λ on. acts.◌>>=◌ tested (λ vs. does checked on vs))
        (λ on g2 le ty j. bind_keeps w g2 (AreOf w qs.value) (IsOf w t) (λ vs. does call on vs) (λ vs. does checked on vs)
        (λ vs g3 le3 ty3 js. subst (λ z. Keeps w g3 (does call on vs) (does checked on vs) (IsOf w z)) (same_answer f.1)
        (keeps g3 on vs (receiving w known sound g3 q.value on ty3 d.0 (is_later w known sound g2 g3 q.value on le3 j)) qs.value js))
        (each_of (map E (exprs ks)) frame) tested (parts_exist ks qs.value qs.first g2 frame (in_later w h g2 at.class here le i) (types_later w h g2 le scope frame a)))
        (E k.0 frame) (such_that otherwise (λ v g. has_type w g an_object v) (C k.0) frame)
        (value_keeps w otherwise h (IsOf w q.value) (λ v g. has_type w g an_object v) (E k.0 frame) (C k.0 frame) (λ v g2 le ty j. receiving w known sound g2 q.value v ty d.0 j) (part_keeps k.0 k.1 q.value q.first h frame i a)))

    -- calls of parents' methods, in a body of a class
    parent_form : (n : ℕ) (r : MethodRef) (ks : List Kept) (t : ExprType) (o : Option Class) (ts : List ExprType)
        → (there 16 (parent_in o n) >>= λ p. there 16 (w.sig (w.owner r)) >>= λ sig. needs 17 (w.is_a p r.class) (needs 18 (all_fit F sig.params ts) (Ok (Of sig.result)))) ≡ Ok t
        → values (map T (exprs ks)) ≡ Ok ts → (h : Heap) (frame : Frame) → InClass w o here h → InClass w at.class here h → have_types w h scope frame ≡ true
        → Keeps w h (expr_step w call here (Expr-F.ParentCall n r (map E (exprs ks))) frame) (acts.◌>>◌ (check otherwise (has_parent w here n)) (expr_step w checked here (Expr-F.ParentCall n r (map C (exprs ks))) frame)) (IsOf w t)
    parent_form n r ks t None ts e v h frame i ia a = absurd (let z = e in cc)
    parent_form n r ks t (Some c) ts e v h frame i ia a =
        let q = went (there 16 (slice_get c.decl.face.parents n)) (λ p. there 16 (w.sig (w.owner r)) >>= λ sig. needs 17 (w.is_a p r.class) (needs 18 (all_fit F sig.params ts) (Ok (Of sig.result)))) t e in
        let p = q.value in
        let g = went (there 16 (w.sig (w.owner r))) (λ sig. needs 17 (w.is_a p r.class) (needs 18 (all_fit F sig.params ts) (Ok (Of sig.result)))) t q.further in
        let sig = g.value in
        let d = held 17 (w.is_a p r.class) (needs 18 (all_fit F sig.params ts) (Ok (Of sig.result))) t g.further in
        let f = held 18 (all_fit F sig.params ts) (Ok (Of sig.result)) t d.1 in
        let is : w.sig (w.owner r) ≡ Some sig = found 16 (w.sig (w.owner r)) sig g.first in
        let parent : slice_get c.decl.face.parents n ≡ Some p = found 16 (slice_get c.decl.face.parents n) p q.first in
        let ps : w.parents (class_here here) ≡ c.decl.face.parents = ap w.parents i.1 ∙ i.0.parents in
        let there_is : slice_get (w.parents (class_here here)) n ≡ Some p = ap (λ z. slice_get z n) ps ∙ parent in
        let at_p : parent_at (w.parents (class_here here)) n ≡ p = ap (λ (o : Option ClassKey). elim o [ None ↦ som_object | Some z ↦ z ]) there_is in
        let own : w.is_a p (w.owner r).class ≡ true = sound.through p r.class (w.owner r).class d.0 (sound.owner r sig is) in
        check_keeps w otherwise h (IsOf w t) (has_parent w here n) (expr_step w call here (Expr-F.ParentCall n r (map E (exprs ks))) frame) (expr_step w checked here (Expr-F.ParentCall n r (map C (exprs ks))) frame)
        (λ g2 le ty. both_true (stands w (class_here here) here.me g2) (is_some (slice_get (w.parents (class_here here)) n)) (in_place w g2 c here (in_later w h g2 (Some c) here le i)) (ap is_some there_is))
        (bind_keeps w h (AreOf w ts) (IsOf w t) (λ vs. parent_call w call here (parent_at (w.parents (class_here here)) n) r vs) (λ vs. parent_call w checked here (parent_at (w.parents (class_here here)) n) r vs)
        (λ vs g2 le ty js. subst (λ z. Keeps w g2 (parent_call w call here z r vs) (parent_call w checked here z r vs) (IsOf w t)) (sym at_p)
        (subst (λ z. Keeps w g2 (parent_call w call here p r vs) (parent_call w checked here p r vs) (IsOf w z)) (same_answer f.1)
        (parent_keeps w known sound call checked keep g2 here c.key p r vs sig (type_later w h g2 le (types.Class c.key) here.me i.2) (i.0.above p (get_mem c.decl.face.parents n p parent)) is own (all_fitting w known sound g2 sig.params ts vs f.0 js))))
        (each_of (map E (exprs ks)) frame) (each_of (map C (exprs ks)) frame) (parts_keep ks ts v h frame ia a))

    parents_form : (r : MethodRef) (ks : List Kept) (t : ExprType) (o : Option Class) (ts : List ExprType)
        → (there 16 (w.sig (w.owner r)) >>= λ sig. needs 18 (all_fit F sig.params ts) (needs 20 (is_nothing (Of sig.result) && proper_in F o (w.owner r).class) (Ok (Of sig.result)))) ≡ Ok t
        → values (map T (exprs ks)) ≡ Ok ts → (h : Heap) (frame : Frame) → InClass w o here h → InClass w at.class here h → have_types w h scope frame ≡ true
        → Keeps w h (expr_step w call here (Expr-F.ParentsCall r (map E (exprs ks))) frame) (acts.◌>>◌ (check otherwise (has_parents w here r)) (expr_step w checked here (Expr-F.ParentsCall r (map C (exprs ks))) frame)) (IsOf w t)
    parents_form r ks t o ts e v h frame i ia a =
        let g = went (there 16 (w.sig (w.owner r))) (λ sig. needs 18 (all_fit F sig.params ts) (needs 20 (is_nothing (Of sig.result) && proper_in F o (w.owner r).class) (Ok (Of sig.result)))) t e in
        let sig = g.value in
        let f = held 18 (all_fit F sig.params ts) (needs 20 (is_nothing (Of sig.result) && proper_in F o (w.owner r).class) (Ok (Of sig.result))) t g.further in
        let n = held 20 (is_nothing (Of sig.result) && proper_in F o (w.owner r).class) (Ok (Of sig.result)) t f.1 in
        let b = both (is_nothing (Of sig.result)) (proper_in F o (w.owner r).class) n.0 in
        by o i b.1 sig (found 16 (w.sig (w.owner r)) sig g.first) f.0 (subst (λ z. z ≡ t) (ap Of (nothing_is sig.result b.0)) (same_answer n.1))
      where
        nothing_is : (k : ValueType) → is_nothing (Of k) ≡ true → k ≡ types.Void
        nothing_is types.Void e = refl
        nothing_is types.Long e = absurd (true≢false (sym e))
        nothing_is types.Boolean e = absurd (true≢false (sym e))
        nothing_is types.Str e = absurd (true≢false (sym e))
        nothing_is (types.Class k) e = absurd (true≢false (sym e))

        by : (o : Option Class) → InClass w o here h → proper_in F o (w.owner r).class ≡ true → (sig : Sig) → w.sig (w.owner r) ≡ Some sig → all_fit F sig.params ts ≡ true → Of types.Void ≡ t
            → Keeps w h (expr_step w call here (Expr-F.ParentsCall r (map E (exprs ks))) frame) (acts.◌>>◌ (check otherwise (has_parents w here r)) (expr_step w checked here (Expr-F.ParentsCall r (map C (exprs ks))) frame)) (IsOf w t)
        by None j p sig is fit void = absurd (true≢false (sym p))
        by (Some c) j p sig is fit void =
            let ps : w.parents (class_here here) ≡ c.decl.face.parents = ap w.parents j.1 ∙ j.0.parents in
            check_keeps w otherwise h (IsOf w t) (has_parents w here r) (expr_step w call here (Expr-F.ParentsCall r (map E (exprs ks))) frame) (expr_step w checked here (Expr-F.ParentsCall r (map C (exprs ks))) frame)
            (λ g2 le ty. both_true (stands w (class_here here) here.me g2) (some (λ q. w.is_a q (w.owner r).class) (w.parents (class_here here))) (in_place w g2 c here (in_later w h g2 (Some c) here le j))
            (subst (λ z. some (λ q. w.is_a q (w.owner r).class) z ≡ true) (sym ps) (let b = both (not (same_key (w.owner r).class c.key)) (w.is_a c.key (w.owner r).class) p in j.0.proper (w.owner r).class (is_false (same_key (w.owner r).class c.key) b.0) b.1)))
            (bind_keeps w h (AreOf w ts) (IsOf w t) (λ vs. parents_calls w call here (w.parents (class_here here)) r vs) (λ vs. parents_calls w checked here (w.parents (class_here here)) r vs)
            (λ vs g2 le ty js. subst (λ z. Keeps w g2 (parents_calls w call here (w.parents (class_here here)) r vs) (parents_calls w checked here (w.parents (class_here here)) r vs) (IsOf w z)) void
            (parents_keeps w known sound call checked keep g2 here c.key (w.parents (class_here here)) r vs sig (type_later w h g2 le (types.Class c.key) here.me j.2) (λ q m. j.0.above q (subst (λ z. Mem q z) ps m)) is (all_fitting w known sound g2 sig.params ts vs fit js)))
            (each_of (map E (exprs ks)) frame) (each_of (map C (exprs ks)) frame) (parts_keep ks ts v h frame ia a))

    host_form : (code : _) (k l : Kept) (t : ExprType) → (value (T k.0) >>= λ s. value (T l.0) >>= host_type s) ≡ Ok t → (h : Heap) (frame : Frame) → InClass w at.class here h → have_types w h scope frame ≡ true
        → Keeps w h (expr_step w call here (Expr-F.Host code (E k.0) (E l.0)) frame) (expr_step w checked here (Expr-F.Host code (such_that otherwise (λ v g. is_long v) (C k.0)) (such_that otherwise (λ v g. is_long v) (C l.0))) frame) (IsOf w t)
    host_form code k l t e h frame i a =
        let q = went (value (T k.0)) (λ s. value (T l.0) >>= host_type s) t e in
        let u = went (value (T l.0)) (host_type q.value) t q.further in
        let d = held 17 (typing.is_long q.value && typing.is_long u.value) (Ok (Of types.Long)) t u.further in
        let b = both (typing.is_long q.value) (typing.is_long u.value) d.0 in
        let right : Act Value = such_that otherwise (λ v g. is_long v) (C l.0) frame in
        bind_keeps w h (IsOf w q.value) (IsOf w t) (λ x. acts.◌>>=◌ (E l.0 frame) (λ y. pure (host code x y))) (λ x. acts.◌>>=◌ right (λ y. pure (host code x y)))
        (λ x g le ty j. bind_keeps w g (IsOf w u.value) (IsOf w t) (λ y. pure (host code x y)) (λ y. pure (host code x y))
        (λ y g2 le2 ty2 j2. pure_keeps w g2 (IsOf w t) (host code x y) (λ f lf tf. subst (λ z. IsOf w z (host code x y) f) (same_answer d.1) refl))
        (E l.0 frame) right (value_keeps w otherwise g (IsOf w u.value) (λ v f. is_long v) (E l.0 frame) (C l.0 frame) (λ v f lf tf jf. long_passes f u.value v b.1 jf)
        (part_keeps l.0 l.1 u.value u.first g frame (in_later w h g at.class here le i) (types_later w h g le scope frame a))))
        (E k.0 frame) (such_that otherwise (λ v g. is_long v) (C k.0) frame)
        (value_keeps w otherwise h (IsOf w q.value) (λ v g. is_long v) (E k.0 frame) (C k.0 frame) (λ v g le ty j. long_passes g q.value v b.0 j) (part_keeps k.0 k.1 q.value q.first h frame i a))

    plain_form : (v : Value) (t : ExprType) → ((g : Heap) → IsOf w t v g) → (h : Heap) → Keeps w h (pure v) (pure v) (IsOf w t)
    plain_form v t f h = pure_keeps w h (IsOf w t) v (λ g le ty. f g)

    layer : (y : Expr-F Kept) (t : ExprType) → typing.expr_step F at scope (map-Expr Expr Typed T (bare y)) ≡ Ok t → (h : Heap) (frame : Frame) → InClass w at.class here h → have_types w h scope frame ≡ true
        → Keeps w h (expr_step w call here (map-Expr Expr Evals E (bare y)) frame) (expr_checked otherwise w checked here (map-Expr Expr Evals C (bare y)) frame) (IsOf w t)
    layer (Expr-F.Long z) t e h frame i a = plain_form (Long z) t (λ g. subst (λ x. IsOf w x (Long z) g) (same_answer e) refl) h
    layer (Expr-F.Str z) t e h frame i a = plain_form (Str z) t (λ g. subst (λ x. IsOf w x (Str z) g) (same_answer e) refl) h
    layer (Expr-F.Boolean b) t e h frame i a = plain_form (Boolean b) t (λ g. subst (λ x. IsOf w x (Boolean b) g) (same_answer e) refl) h
    layer Expr-F.Nil t e h frame i a = plain_form Nil t (λ g. subst (λ x. IsOf w x Nil g) (same_answer e) refl) h
    layer (Expr-F.Local n) t e h frame i a = local_keeps n t e h frame a
    layer Expr-F.Me t e h frame i a = self_keeps t at.class e h i
    layer (Expr-F.Variable n) t e h frame i a = variable_keeps n t e h i
    layer (Expr-F.Unary op k) t e h frame i a = unary_keeps op k t e h frame i a
    layer (Expr-F.Binary op k l) t e h frame i a = binary_keeps op k l t e h frame i a
    layer (Expr-F.New k) t e h frame i a = new_form k t e h
    layer (Expr-F.Class k) t e h frame i a = class_form k t e h
    layer Expr-F.Manager t e h frame i a = plain_form (To Manager) t (λ g. subst (λ x. IsOf w x (To Manager) g) (same_answer e) (sound.itself som_class_mgr)) h
    layer (Expr-F.Cast c k) t e h frame i a = cast_form c k t e h frame i a
    layer (Expr-F.Isa c k) t e h frame i a = isa_form c k t e h frame i a
    layer (Expr-F.Proxy c k) t e h frame i a = proxy_form c k t e h frame i a
    layer (Expr-F.OffsetCall r k ks) t e h frame i a = offset_form r k ks t e h frame i a
    layer (Expr-F.Lookup kind name k ks) t e h frame i a =
        named_form kind (λ c on vs. named_call w c here.place Lookup kind name on vs) k ks t (λ g on vs o ts js. named_keeps w known sound call checked keep g here.place Lookup kind name on vs o (values_exist w g ts vs js)) e h frame i a
    layer (Expr-F.Dispatch kind name k ks) t e h frame i a =
        named_form kind (λ c on vs. dispatch_call w c here.place kind name on vs) k ks t (λ g on vs o ts js. dispatch_keeps w known sound call checked keep g here.place kind name on vs o (values_exist w g ts vs js)) e h frame i a
    layer (Expr-F.ParentCall n r ks) t e h frame i a =
        let q = went (values (map T (exprs ks))) (parent_call_type F at n r) t e in parent_form n r ks t at.class q.value q.further q.first h frame i i a
    layer (Expr-F.ParentsCall r ks) t e h frame i a =
        let q = went (values (map T (exprs ks))) (parents_call_type F at r) t e in parents_form r ks t at.class q.value q.further q.first h frame i i a
    layer (Expr-F.Host code k l) t e h frame i a = host_form code k l t e h frame i a

    pub expr_keeps : (e : Expr) → ExprKeeps e
    expr_keeps = ind-Expr ExprKeeps (λ x y is. subst (λ z. ExprKeeps (roll-Expr z)) is (λ t e h frame i a.
        subst (λ (f : Evals). Keeps w h (f frame) (C (roll-Expr (bare y)) frame) (IsOf w t)) (sym (fold-roll-Expr Evals (expr_step w call here) (bare y)))
        (subst (λ (f : Evals). Keeps w h (expr_step w call here (map-Expr Expr Evals E (bare y)) frame) (f frame) (IsOf w t)) (sym (fold-roll-Expr Evals (expr_checked otherwise w checked here) (bare y)))
        (layer y t (sym (fold-roll-Expr Typed (typing.expr_step F at scope) (bare y)) ∙ e) h frame i a))))
