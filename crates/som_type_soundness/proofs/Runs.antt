-- Calls at each level and main keep the objects well typed, and no test in them fails.
use Rattle.std.proofs.Common.{◌≡◌, ℕ, zero, suc, ◌⊎◌, inl, inr, Bool, true, false, not, ◌&&◌, if◌then◌else◌, List, [], ◌∷◌, reverse, Option, Some, None, Ok, refl, sym, ap, subst, true≢false}
use mathlib.Core.List.{reverse_aux}
use Rattle.std.specs.Prelude.{is_some}
use Rattle.som_model.specs.declared.key.ClassKey.{ClassKey}
use Rattle.som_model.specs.declared.key.MethodRef.{MethodRef}
use Rattle.som_model.specs.declared.key.ValueType.TheVariants as types
use Rattle.som_model.specs.declared.syntax.Block.{Block}
use Rattle.som_model.specs.declared.class.Sig.{Sig}
use Rattle.som_model.specs.declared.program.Fault.TheVariants as faults
use Rattle.som_model.specs.declared.limits.TheConstants.{MAX_DEPTH}
use Rattle.som_model.specs.Lists.{Mem}
use Rattle.som_model.specs.Kernel.{som_object, an_object, before_method, after_method}
use Rattle.som_model.specs.Implementation.{Held, is_kernel}
use Rattle.som_semantics.specs.World.{World}
use Rattle.som_semantics.specs.State.{Value, Str, Nil, To, Ref, ClassObject, Heap, InMain, Manner, Before, After, Called, class_of}
use Rattle.som_semantics.specs.Runs.{Ran, Goes, Ends, Act, IsLater, end_of}
use Rattle.som_semantics.specs.Acts.{◌>>=◌, ◌>>◌, pure, fault, take_unit, emit, reading, later_self, later_on}
use Rattle.som_semantics.specs.Calls.{Calls, Request, Here}
use Rattle.som_semantics.specs.Statements.{Flow, Next, Return, Returned, run_block}
use Rattle.som_semantics.specs.Invoked.{body_does}
use Rattle.som_semantics.specs.Means.{body_class, hooks_of, invoke, invoke_held, invoke_in, invoke_hook, each_hook, bodies, calls, nothing_yet, beginning, main_act, means_in}
use Rattle.som_model.specs.Typing.{in_main}
use Rattle.som_model.specs.TypedBlocks.{Scope, block_scope}
use Rattle.som_model.proofs.KeyLaws.{both}
use Rattle.som_semantics.proofs.CallLaws.{call_none, call_some}
use Rattle.som_type_soundness.specs.Values.{is_there, has_type, have_types, are_arguments, is_result}
use Rattle.som_type_soundness.specs.Heaps.{AreTyped}
use Rattle.som_type_soundness.specs.Preserving.{FlowHas, Leaves}
use Rattle.som_type_soundness.specs.Checks.{stands, is_below, has_method, can_run}
use Rattle.som_type_soundness.specs.Checked.{is_returned, check, checked_value, checked_block, body_checked, invoke_checked, held_checked, in_checked, hook_checked, hooks_checked, bodies_checked, checked_calls, checked_main, checked_in}
use Rattle.som_type_soundness.proofs.Keeping.{Any, Keeps, bind_keeps, pure_keeps, fault_keeps, emit_keeps, unit_keeps, reading_keeps, check_keeps, value_keeps}
use Rattle.som_type_soundness.proofs.Heaps.{both_true, type_later, types_later, nothing_typed}
use Rattle.som_type_soundness.proofs.Facts.{IsSound, facts_of, sig}
use Rattle.som_type_soundness.proofs.Values.{an_object_is, there_object}
use Rattle.som_type_soundness.proofs.Calls.{Has, AtParent, CallsKeep}
use Rattle.som_type_soundness.proofs.Statements.{block_keeps}
use Rattle.som_type_soundness.proofs.Bodies.{body_keeps}

-- what stands in a list that is turned round stands in the list
aux_mem : {A : Type 0} (x : A) (xs ys : List A) → Mem x (reverse_aux xs ys) → Mem x xs ⊎ Mem x ys
aux_mem x [] ys m = inr m
aux_mem x (z ∷ xs) ys m = elim (aux_mem x xs (z ∷ ys) m) [
  | inl a ↦ inl (inr a)
  | inr (inl a) ↦ inl (inl a)
  | inr (inr a) ↦ inr a
]

reverse_mem : {A : Type 0} (x : A) (xs : List A) → Mem x (reverse xs) → Mem x xs
reverse_mem x xs m = elim (aux_mem x xs [] m) [ inl a ↦ a | inr a ↦ absurd a ]

module _ (w : World) (known : ClassKey → Bool) (sound : IsSound w known) (otherwise : Act (Unit {0})) where
  below_there : (h : Heap) (q : Request) (r : MethodRef) (self : Ref) (p : Option ClassKey) → AtParent w h self r p → is_below w r.class p ≡ true
  below_there h q r self None a = refl
  below_there h q r self (Some p) a = a.1

  method_there : (h g : Heap) (q : Request) (s : Sig) → IsLater h g → w.sig q.method ≡ Some s → has_type w h (types.Class q.method.class) (To q.self) ≡ true → AtParent w h q.self q.method q.parent → has_method w q g ≡ true
  method_there h g q s le is e p = both_true (stands w q.method.class (To q.self) g) (is_some (w.sig q.method) && is_below w q.method.class q.parent) (type_later w h g le (types.Class q.method.class) (To q.self) e)
      (both_true (is_some (w.sig q.method)) (is_below w q.method.class q.parent) (ap is_some is) (below_there h q q.method q.self q.parent p))

  parent_later : (h g : Heap) (self : Ref) (r : MethodRef) (p : Option ClassKey) → IsLater h g → AtParent w h self r p → AtParent w g self r p
  parent_later h g self r None le a = tt
  parent_later h g self r (Some p) le a = (type_later w h g le (types.Class p) (To self) a.0, a.1)

  module _ (call checked : Calls) (keep : CallsKeep w call checked) where
    -- a body that is invoked
    invoke_keeps : (h : Heap) (way : Manner) (r : MethodRef) (x : ClassKey) (b : Held) (self : Ref) (args : List Value) (s : Sig) → w.sig r ≡ Some s → w.held x r ≡ Some b → has_type w h (types.Class x) (To self) ≡ true → have_types w h s.params args ≡ true
        → Keeps w h (invoke w call way r x b self args) (invoke_checked otherwise w checked way r x b self args) (Has w s.result)
    invoke_keeps h way r x b self args s is has e a =
        let P = Has w s.result in
        let does : Act Value = body_does w call b x r self args in
        let done : Act Value = checked_value otherwise (λ v g. is_result w g (w.sig r) v) (body_checked otherwise w checked b x r self args) in
        check_keeps w otherwise h P (can_run w r x self args) (take_unit >> (emit (Called r way x) >> does)) (take_unit >> (emit (Called r way x) >> done))
        (λ g le ty. both_true (stands w x (To self) g) (are_arguments w g (w.sig r) args) (type_later w h g le (types.Class x) (To self) e)
        (subst (λ z. are_arguments w g z args ≡ true) (sym is) (types_later w h g le s.params args a)))
        (bind_keeps w h (Any w) P (λ u. emit (Called r way x) >> does) (λ u. emit (Called r way x) >> done)
        (λ u g le ty f. bind_keeps w g (Any w) P (λ v. does) (λ v. done)
        (λ v g2 le2 ty2 f2. value_keeps w otherwise g2 P (λ v l. is_result w l (w.sig r) v) does (body_checked otherwise w checked b x r self args)
        (λ v l lf tf has. subst (λ z. is_result w l z v ≡ true) (sym is) has)
        (body_keeps w known sound otherwise call checked keep g2 b x r self args s is (sound.bodies x r s b is has) (type_later w h g2 (later_on h g g2 le le2) (types.Class x) (To self) e) (types_later w h g2 (later_on h g g2 le le2) s.params args a) ty2))
        (emit (Called r way x)) (emit (Called r way x)) (emit_keeps w g (Called r way x)))
        take_unit take_unit (unit_keeps w h))

    -- the class that answers has a body
    in_keeps : (h : Heap) (way : Manner) (r : MethodRef) (o : Option ClassKey) (x : ClassKey) (b : Held) (self : Ref) (args : List Value) (s : Sig) → o ≡ Some x → w.held x r ≡ Some b → w.sig r ≡ Some s → has_type w h (types.Class x) (To self) ≡ true → have_types w h s.params args ≡ true
        → Keeps w h (invoke_in w call way r o self args) (in_checked otherwise w checked way r o self args) (Has w s.result)
    in_keeps h way r o x b self args s found has is e a =
        subst (λ z. Keeps w h (invoke_in w call way r z self args) (in_checked otherwise w checked way r z self args) (Has w s.result)) (sym found)
        (subst (λ z. Keeps w h (invoke_held w call way r x z self args) (held_checked otherwise w checked way r x z self args) (Has w s.result)) (sym has)
        (invoke_keeps h way r x b self args s is has e a))

    hook_keeps : (h : Heap) (way : Manner) (r : MethodRef) (x : ClassKey) (o : Option Held) (self : Ref) (args : List Value) (s : Sig) → w.held x r ≡ o → w.sig r ≡ Some s → has_type w h (types.Class x) (To self) ≡ true → have_types w h s.params args ≡ true
        → Keeps w h (invoke_hook w call way r x o self args) (hook_checked otherwise w checked way r x o self args) (Any w)
    hook_keeps h way r x None self args s has is e a = pure_keeps w h (Any w) tt (λ g le ty. tt)
    hook_keeps h way r x (Some b) self args s has is e a =
        bind_keeps w h (Has w s.result) (Any w) (λ v. pure tt) (λ v. pure tt) (λ v g le ty f. pure_keeps w g (Any w) tt (λ l lf tf. tt))
        (invoke w call way r x b self args) (invoke_checked otherwise w checked way r x b self args) (invoke_keeps h way r x b self args s is has e a)

    hooks_keep : (h : Heap) (way : Manner) (r : MethodRef) (ks : List ClassKey) (self : Ref) (args : List Value) (s : Sig) → ((k : ClassKey) → Mem k ks → has_type w h (types.Class k) (To self) ≡ true) → w.sig r ≡ Some s → have_types w h s.params args ≡ true
        → Keeps w h (each_hook w call way r ks self args) (hooks_checked otherwise w checked way r ks self args) (Any w)
    hooks_keep h way r [] self args s e is a = pure_keeps w h (Any w) tt (λ g le ty. tt)
    hooks_keep h way r (k ∷ ks) self args s e is a =
        bind_keeps w h (Any w) (Any w) (λ u. each_hook w call way r ks self args) (λ u. hooks_checked otherwise w checked way r ks self args)
        (λ u g le ty f. hooks_keep g way r ks self args s (λ c m. type_later w h g le (types.Class c) (To self) (e c (inr m))) is (types_later w h g le s.params args a))
        (invoke_hook w call way r k (w.held k r) self args) (hook_checked otherwise w checked way r k (w.held k r) self args)
        (hook_keeps h way r k (w.held k r) self args s refl is (e k (inl refl)) a)

    -- the hooks are classes from which the metaclass descends
    hook_above : (x : ClassKey) (q : Request) (p : Option ClassKey) (b : Bool) (k : ClassKey) → Mem k (elim p [ None ↦ if b then [] else w.hooks (w.meta x) | Some z ↦ [] ]) → w.is_a (w.meta x) k ≡ true
    hook_above x q None true k m = absurd m
    hook_above x q None false k m = sound.hooks (w.meta x) k m
    hook_above x q (Some p) b k m = absurd m

    -- the class that answers a call, from self's class or from a parent
    answering : (h : Heap) (x : ClassKey) (self : Ref) (r : MethodRef) (p : Option ClassKey) (s : Sig) → class_of w h self ≡ x → w.sig r ≡ Some s → has_type w h (types.Class r.class) (To self) ≡ true → AtParent w h self r p
        → (y : ClassKey) × (b : Held) × ((elim p [ None ↦ w.impl x r | Some z ↦ w.impl z r ]) ≡ Some y) × (w.held y r ≡ Some b) × (has_type w h (types.Class y) (To self) ≡ true)
    answering h x self r None s is sig e a =
        let t = both (is_there w h self) (w.is_a (class_of w h self) r.class) e in
        let f = sound.answered x r s sig (subst (λ z. w.is_a z r.class ≡ true) is t.1) in
        (f.class, f.body, f.found, f.held, both_true (is_there w h self) (w.is_a (class_of w h self) f.class) t.0 (subst (λ z. w.is_a z f.class ≡ true) (sym is) f.above))
    answering h x self r (Some p) s is sig e a =
        let t = both (is_there w h self) (w.is_a (class_of w h self) p) a.0 in
        let f = sound.answered p r s sig a.1 in
        (f.class, f.body, f.found, f.held, both_true (is_there w h self) (w.is_a (class_of w h self) f.class) t.0 (sound.through (class_of w h self) p f.class t.1 f.above))

    -- the bodies of a call
    bodies_keep : (h : Heap) (q : Request) (s : Sig) → AreTyped w h → w.sig q.method ≡ Some s → has_type w h (types.Class q.method.class) (To q.self) ≡ true → have_types w h s.params q.args ≡ true → AtParent w h q.self q.method q.parent
        → Keeps w h (bodies w call (class_of w h q.self) q) (bodies_checked otherwise w checked (class_of w h q.self) q) (Has w s.result)
    bodies_keep h q s typed is e a p =
        let x = class_of w h q.self in
        let P = Has w s.result in
        let seen : List Value = To q.self ∷ Str q.method.name ∷ [] in
        let hooks : List ClassKey = hooks_of w x q in
        let self_is = (both (is_there w h q.self) (w.is_a x q.method.class) e).0 in
        let seen_is : have_types w h (an_object ∷ types.Str ∷ []) seen ≡ true = both_true (has_type w h an_object (To q.self)) true (an_object_is w known sound h q.self typed self_is) refl in
        let on_class : (k : ClassKey) → Mem k hooks → has_type w h (types.Class k) (To (ClassObject x)) ≡ true = λ k m. both_true (w.is_a x som_object) (w.is_a (w.meta x) k) (there_object w known sound h q.self typed self_is) (hook_above x q q.parent (is_kernel q.method.class) k m) in
        let f = answering h x q.self q.method q.parent s refl is e p in
        let last : Value → Act Value = λ v. each_hook w call After after_method (reverse hooks) (ClassObject x) seen >> pure v in
        let last_checked : Value → Act Value = λ v. hooks_checked otherwise w checked After after_method (reverse hooks) (ClassObject x) seen >> pure v in
        let mid : Act Value = invoke_in w call q.way q.method (body_class w x q) q.self q.args in
        let mid_checked : Act Value = in_checked otherwise w checked q.way q.method (body_class w x q) q.self q.args in
        bind_keeps w h (Any w) P (λ u. mid >>= last) (λ u. mid_checked >>= last_checked)
        (λ u g le ty t. bind_keeps w g P P last last_checked
        (λ v g2 le2 ty2 has. bind_keeps w g2 (Any w) P (λ z. pure v) (λ z. pure v)
        (λ z g3 le3 ty3 t3. pure_keeps w g3 P v (λ l lf tf. type_later w g2 l (later_on g2 g3 l le3 lf) s.result v has))
        (each_hook w call After after_method (reverse hooks) (ClassObject x) seen) (hooks_checked otherwise w checked After after_method (reverse hooks) (ClassObject x) seen)
        (hooks_keep g2 After after_method (reverse hooks) (ClassObject x) seen _ (λ k m. type_later w h g2 (later_on h g g2 le le2) (types.Class k) (To (ClassObject x)) (on_class k (reverse_mem k hooks m))) sound.after.sig (types_later w h g2 (later_on h g g2 le le2) (an_object ∷ types.Str ∷ []) seen seen_is)))
        mid mid_checked
        (in_keeps g q.way q.method (body_class w x q) f.0 f.1 q.self q.args s f.2 f.3 is (type_later w h g le (types.Class f.0) (To q.self) f.4) (types_later w h g le s.params q.args a)))
        (each_hook w call Before before_method hooks (ClassObject x) seen) (hooks_checked otherwise w checked Before before_method hooks (ClassObject x) seen)
        (hooks_keep h Before before_method hooks (ClassObject x) seen _ on_class sound.before.sig seen_is)

  checked_none : (q : Request) → checked_calls otherwise w 0 q ≡ (check otherwise (has_method w q) >> fault faults.Depth q.from)
  unfolding checked_calls
  checked_none q = refl

  checked_some : (levels : ℕ) (q : Request) → checked_calls otherwise w (suc levels) q ≡ (check otherwise (has_method w q) >> reading (λ h. bodies_checked otherwise w (checked_calls otherwise w levels) (class_of w h q.self) q))
  unfolding checked_calls
  checked_some levels q = refl

  -- calls, where so many levels are left
  pub all_calls_keep : (levels : ℕ) → CallsKeep w (calls w levels) (checked_calls otherwise w levels)
  all_calls_keep zero h q s is e a p =
      subst (λ (m : Act Value). Keeps w h m (checked_calls otherwise w 0 q) (Has w s.result)) (sym (call_none w q))
      (subst (λ (n : Act Value). Keeps w h (fault faults.Depth q.from) n (Has w s.result)) (sym (checked_none q))
      (check_keeps w otherwise h (Has w s.result) (has_method w q) (fault faults.Depth q.from) (fault faults.Depth q.from) (λ g le ty. method_there h g q s le is e p)
      (fault_keeps w h (Has w s.result) faults.Depth q.from)))
  all_calls_keep (suc levels) h q s is e a p =
      subst (λ (m : Act Value). Keeps w h m (checked_calls otherwise w (suc levels) q) (Has w s.result)) (sym (call_some w levels q))
      (subst (λ (n : Act Value). Keeps w h (reading (λ g. bodies w (calls w levels) (class_of w g q.self) q)) n (Has w s.result)) (sym (checked_some levels q))
      (check_keeps w otherwise h (Has w s.result) (has_method w q) (reading (λ g. bodies w (calls w levels) (class_of w g q.self) q)) (reading (λ g. bodies_checked otherwise w (checked_calls otherwise w levels) (class_of w g q.self) q))
      (λ g le ty. method_there h g q s le is e p)
      (reading_keeps w h (Has w s.result) (λ g. bodies w (calls w levels) (class_of w g q.self) q) (λ g. bodies_checked otherwise w (checked_calls otherwise w levels) (class_of w g q.self) q)
      (λ g le ty. bodies_keep (calls w levels) (checked_calls otherwise w levels) (all_calls_keep levels) g q s ty is (type_later w h g le (types.Class q.method.class) (To q.self) e) (types_later w h g le s.params q.args a)
      (parent_later h g q.self q.method q.parent le p)))))

  not_returned : (flow : Flow) (h : Heap) → FlowHas w types.Void [] flow h → not (is_returned flow) ≡ true
  not_returned (Next frame) h f = refl
  not_returned Return h f = refl
  not_returned (Returned v) h f = absurd (true≢false f.1)

  -- main
  pub main_keeps : (main : Block) (after : Scope) → block_scope (facts_of w known) in_main main [] ≡ Ok after → (h : Heap) → Keeps w h (main_act w main) (checked_main otherwise w main) (Any w)
  main_keeps main after e h =
      let here : Here = record { me = Nil; place = InMain } in
      bind_keeps w h (FlowHas w types.Void []) (Any w) (λ flow. pure tt) (λ flow. check otherwise (λ g. not (is_returned flow)) >> pure tt)
      (λ flow g le ty f. check_keeps w otherwise g (Any w) (λ l. not (is_returned flow)) (pure tt) (pure tt) (λ l lf tf. not_returned flow g f) (pure_keeps w g (Any w) tt (λ l lf tf. tt)))
      (run_block w (calls w MAX_DEPTH) here main []) (checked_block otherwise w (checked_calls otherwise w MAX_DEPTH) here main [])
      (block_keeps w known sound otherwise (calls w MAX_DEPTH) (checked_calls otherwise w MAX_DEPTH) (all_calls_keep MAX_DEPTH) here in_main main [] after e h [] tt refl)

  left_typed : {A : Type 0} (P : A → Heap → Type 0) (r : Ran A) → Leaves w P r → AreTyped w (end_of r).heap
  left_typed P (Goes a s) l = l.0
  left_typed P (Ends c s) l = l

  pub checked_means : (main : Block) (after : Scope) → block_scope (facts_of w known) in_main main [] ≡ Ok after → (fuel : ℕ) → checked_in otherwise w main fuel ≡ means_in w main fuel
  checked_means main after e fuel = (main_keeps main after e (nothing_yet w)).same (beginning w fuel) (later_self (nothing_yet w)) (nothing_typed w)

  pub objects_typed : (main : Block) (after : Scope) → block_scope (facts_of w known) in_main main [] ≡ Ok after → (fuel : ℕ) → AreTyped w (end_of (means_in w main fuel)).heap
  objects_typed main after e fuel = left_typed (Any w) (means_in w main fuel) ((main_keeps main after e (nothing_yet w)).left (beginning w fuel) (later_self (nothing_yet w)) (nothing_typed w))
