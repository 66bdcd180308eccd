-- Bodies keep the objects well typed and answer values of the types of their results: blocks, accessors, forwards and those of the kernel.
use Rattle.std.proofs.Common.{◌≡◌, ℤ, ◌⊎◌, inl, inr, Bool, true, false, not, ◌&&◌, if◌then◌else◌, List, [], ◌∷◌, Option, Some, None, slice_get, Ok, Err, refl, sym, ap, ◌∙◌, subst, true≢false}
use Rattle.std.specs.Str.{bytes_eq}
use Rattle.som_model.specs.declared.key.ClassKey.{ClassKey}
use Rattle.som_model.specs.declared.key.ClassKey.TheVariants as keys
use Rattle.som_model.specs.declared.key.MethodRef.{MethodRef}
use Rattle.som_model.specs.declared.key.ValueType.{ValueType}
use Rattle.som_model.specs.declared.key.ValueType.TheVariants as types
use Rattle.som_model.specs.declared.class.Sig.{Sig}
use Rattle.som_model.specs.declared.program.Fault.{Fault}
use Rattle.som_model.specs.declared.program.Fault.TheVariants as faults
use Rattle.som_model.specs.Lists.{some}
use Rattle.som_model.specs.ClassNames.{class_name}
use Rattle.som_model.specs.Kernel.{som_object, som_class, som_init, som_uninit, an_object, a_class}
use Rattle.som_model.specs.Rules.{is_void}
use Rattle.som_model.specs.Implementation.{Held}
use Rattle.som_model.specs.Implementation as held
use Rattle.som_semantics.specs.World.{World}
use Rattle.som_semantics.specs.State.{Value, Boolean, Nil, To, Ref, Object, ClassObject, Manager, Heap, Instance, Place, InBody, Offset, Forward, Used, Tried, ◌then_try◌, freed, class_of, is_live, live, receiver, target_of, zero_of}
use Rattle.som_semantics.specs.Runs.{Act, IsLater}
use Rattle.som_semantics.specs.Acts.{◌>>=◌, ◌>>◌, pure, tried, asked, emit, become, freed_stays, make, later_self, later_on}
use Rattle.som_semantics.specs.Values.{text, text_of, number_of}
use Rattle.som_semantics.specs.Calls.{Calls, Here, offset_call}
use Rattle.som_semantics.specs.Expressions.{read}
use Rattle.som_semantics.specs.Statements.{Flow, Next, Return, Returned, assign, run_block}
use Rattle.som_semantics.specs.Invoked.{first_argument, further_arguments, stands_for, version_fits, class_found, found_object, Asking, GetClass, GetClassName, IsA, IsInstanceOf, RespondsTo, DispatchName, GetName, DescendedFrom, SupportsMethod, CheckVersion, asks, KernelBody, Idle, Free, New, NewNoInit, FindClass, Asks, table, kernel_body, free_body, new_body, new_no_init_body, forward_body, kernel_does, result_zero, answer_of, body_does}
use Rattle.som_model.specs.Typing.{in_body}
use Rattle.som_model.proofs.KeyLaws.{both}
use Rattle.som_type_soundness.specs.Values.{is_there, has_type, have_types}
use Rattle.som_type_soundness.specs.Heaps.{AreTyped}
use Rattle.som_type_soundness.specs.Preserving.{FlowHas}
use Rattle.som_type_soundness.specs.Checks.{stands, has_slot, reads, kernel_can, has_target}
use Rattle.som_type_soundness.specs.Checked.{checked_block, body_checked}
use Rattle.som_type_soundness.proofs.Keeping.{Answers, Any, Keeps, bind_keeps, pure_keeps, fault_keeps, tried_keeps, asked_keeps, emit_keeps, become_keeps, check_keeps}
use Rattle.som_type_soundness.proofs.Heaps.{both_true, some_is, type_later, types_later, there_later, freed_typed, zero_typed}
use Rattle.som_type_soundness.proofs.Facts.{IsSound, IsBody, kernel_result}
use Rattle.som_type_soundness.proofs.Values.{class_object_is, class_up, object_up, there_object}
use Rattle.som_type_soundness.proofs.Operators.{answers_if, one_text}
use Rattle.som_type_soundness.proofs.Calls.{Has, CallsKeep, make_keeps, offset_keeps, own_keeps}
use Rattle.som_type_soundness.proofs.Expressions.{reads_typed}
use Rattle.som_type_soundness.proofs.Statements.{assign_keeps, block_keeps}

-- the arguments that a body of the kernel reads, which come by their own place
abbrev kernel_reads : World → KernelBody → List Value → Heap → Bool
kernel_reads w Idle args h = true
kernel_reads w b args h = have_types w h (reads b) args

abbrev fitting : World → Option ClassKey → ℤ → ℤ → Option ClassKey
fitting w None major minor = None
fitting w (Some k) major minor = if version_fits (w.version k) major minor then Some k else None

abbrev class_argument : Heap → Value → Tried ClassKey
class_argument h v = receiver h v then_try stands_for

abbrev targets_in : Option Instance → Value
targets_in o = elim o [ None ↦ Nil | Some t ↦ t.target ]

fits_one : (w : World) (o : Option ClassKey) (major minor : ℤ) (k : ClassKey) → fitting w o major minor ≡ Some k → o ≡ Some k
fits_one w None major minor k e = e
fits_one w (Some c) major minor k e = by (version_fits (w.version c) major minor) e
  where
    by : (b : Bool) → (if b then Some c else None) ≡ Some k → Some c ≡ Some k
    by true f = f
    by false f = absurd (let z = f in cc)

answers_then : {A B : Type 0} (x : Tried A) (k : A → Tried B) (P : B → Type 0) → ((a : A) → Answers (k a) P) → Answers (x then_try k) P
answers_then (Ok a) k P f = f a
answers_then (Err f) k P g = tt

-- what a body of class x reads in self, and on what it runs
live_then : {B : Type 0} (b : Bool) (r : Ref) (f : Fault) (k : Ref → Tried B) (P : B → Type 0) → Answers (k r) P → Answers ((if b then Ok r else Err f) then_try k) P
live_then true r f k P a = a
live_then false r f k P a = tt

module _ (w : World) where
  first_typed : (h : Heap) (t : ValueType) (args : List Value) → have_types w h (t ∷ []) args ≡ true → has_type w h t (first_argument args) ≡ true
  first_typed h t (v ∷ []) e = (both (has_type w h t v) true e).0
  first_typed h t (v ∷ u ∷ vs) e = absurd (true≢false (sym (both (has_type w h t v) false e).1))
  first_typed h t [] e = absurd (true≢false (sym e))

  -- what a body answers is of its result's type, also where it ends without a value
  answer_has : (h : Heap) (s : Sig) (o : Option Sig) (flow : Flow) → o ≡ Some s → FlowHas w s.result s.params flow h → has_type w h s.result (answer_of (result_zero o) flow) ≡ true
  answer_has h s o flow e f = subst (λ z. has_type w h s.result (answer_of (result_zero z) flow) ≡ true) (sym e) (by flow f)
    where
      by : (flow : Flow) → FlowHas w s.result s.params flow h → has_type w h s.result (answer_of (zero_of s.result) flow) ≡ true
      by (Next frame) g = zero_typed w h s.result
      by Return g = zero_typed w h s.result
      by (Returned v) g = g.0

module _ (w : World) (known : ClassKey → Bool) (sound : IsSound w known) where
  a_class_object : (h : Heap) (k : ClassKey) → w.is_a k som_object ≡ true → has_type w h a_class (To (ClassObject k)) ≡ true
  a_class_object h k e = class_object_is w known sound h k som_class e (sound.meta k)

  asks_typed : (h : Heap) (q : Asking) (self : Ref) (args : List Value) → AreTyped w h → is_there w h self ≡ true → have_types w h (reads (Asks q)) args ≡ true → Answers (asks w q self args h) (λ v. has_type w h (kernel_result (Asks q)) v ≡ true)
  asks_typed h GetClass self args t e a = live_then (is_live h self) self faults.Freed (λ r. Ok (To (ClassObject (class_of w h r)))) (λ v. has_type w h a_class v ≡ true) (a_class_object h (class_of w h self) (there_object w known sound h self t e))
  asks_typed h GetClassName self args t e a = answers_then (live h self) (λ r. text (class_name (class_of w h r))) (λ v. has_type w h types.Str v ≡ true) (λ r. one_text w known sound h (class_name (class_of w h r)))
  asks_typed h IsA self args t e a = answers_then (live h self) (λ r. class_argument h (first_argument args) then_try λ k. Ok (Boolean (w.is_a (class_of w h r) k))) (λ v. has_type w h types.Boolean v ≡ true)
      (λ r. answers_then (class_argument h (first_argument args)) (λ k. Ok (Boolean (w.is_a (class_of w h r) k))) (λ v. has_type w h types.Boolean v ≡ true) (λ k. refl))
  asks_typed h IsInstanceOf self args t e a = answers_then (live h self) _ (λ v. has_type w h types.Boolean v ≡ true) (λ r. answers_then (class_argument h (first_argument args)) _ (λ v. has_type w h types.Boolean v ≡ true) (λ k. refl))
  asks_typed h RespondsTo self args t e a = answers_then (live h self) _ (λ v. has_type w h types.Boolean v ≡ true) (λ r. refl)
  asks_typed h DispatchName self args t e a = first_typed w h types.Str args a
  asks_typed h GetName self args t e a = answers_then (stands_for self) (λ k. text (class_name k)) (λ v. has_type w h types.Str v ≡ true) (λ k. one_text w known sound h (class_name k))
  asks_typed h DescendedFrom self args t e a = answers_then (stands_for self) _ (λ v. has_type w h types.Boolean v ≡ true) (λ r. answers_then (class_argument h (first_argument args)) _ (λ v. has_type w h types.Boolean v ≡ true) (λ k. refl))
  asks_typed h SupportsMethod self args t e a = answers_then (stands_for self) _ (λ v. has_type w h types.Boolean v ≡ true) (λ r. refl)
  asks_typed h CheckVersion self args t e a = answers_then (stands_for self) _ (λ v. has_type w h types.Boolean v ≡ true) (λ r. refl)

  stands_typed : (h : Heap) (self : Ref) → is_there w h self ≡ true → Answers (stands_for self) (λ k. w.is_a k som_object ≡ true)
  stands_typed h (ClassObject k) e = e
  stands_typed h (Object i) e = tt
  stands_typed h Manager e = tt

  found_keeps : (h : Heap) (o : Option ClassKey) → ((k : ClassKey) → o ≡ Some k → w.is_a k som_object ≡ true) → Keeps w h (found_object o) (found_object o) (Has w a_class)
  found_keeps h None f = pure_keeps w h (Has w a_class) Nil (λ g le ty. refl)
  found_keeps h (Some k) f = bind_keeps w h (Any w) (Has w a_class) (λ x. pure (To (ClassObject k))) (λ x. pure (To (ClassObject k)))
      (λ x g le ty u. pure_keeps w g (Has w a_class) (To (ClassObject k)) (λ l lf tf. a_class_object l k (f k refl))) (emit (Used k)) (emit (Used k)) (emit_keeps w h (Used k))

  class_is : (args : List Value) (k : ClassKey) → class_found w args ≡ Some k → w.is_a k som_object ≡ true
  class_is args k e = sound.named _ k (fits_one w (w.named (text_of (first_argument args))) (number_of (first_argument (further_arguments args))) (number_of (first_argument (further_arguments (further_arguments args)))) k e)

  module _ (otherwise : Act (Unit {0})) (call checked : Calls) (keep : CallsKeep w call checked) (at : Place) (self : Ref) where
    free_keeps : (h : Heap) (r : Ref) → has_type w h an_object (To self) ≡ true → Keeps w h (free_body w call at self r) (free_body w checked at self r) (Has w types.Void)
    free_keeps h (Object i) e =
        let done : Act Value = become (freed self) (freed_stays self) >> pure Nil in
        bind_keeps w h (Has w types.Void) (Has w types.Void) (λ v. asked at (λ g. live g self) >>= λ r. done) (λ v. asked at (λ g. live g self) >>= λ r. done)
        (λ v g le ty f. bind_keeps w g (Any w) (Has w types.Void) (λ r. done) (λ r. done)
        (λ r g2 le2 ty2 u. bind_keeps w g2 (Any w) (Has w types.Void) (λ x. pure Nil) (λ x. pure Nil)
        (λ x g3 le3 ty3 u3. pure_keeps w g3 (Has w types.Void) Nil (λ l lf tf. refl))
        (become (freed self) (freed_stays self)) (become (freed self) (freed_stays self)) (become_keeps w g2 (freed self) (freed_stays self) (λ l lf tf. freed_typed w self l tf)))
        (asked at (λ l. live l self)) (asked at (λ l. live l self)) (asked_keeps w g (Any w) at (λ l. live l self) (λ l lf tf. answers_if (is_live l self) self faults.Freed (λ r. Unit {0}) tt)))
        (offset_call w call at Offset som_uninit (To self) []) (offset_call w checked at Offset som_uninit (To self) []) (own_keeps w known sound call checked keep h at Offset som_uninit (To self) [] _ sound.uninit e refl)
    free_keeps h (ClassObject k) e = fault_keeps w h (Has w types.Void) faults.ClassFree at
    free_keeps h Manager e = fault_keeps w h (Has w types.Void) faults.ClassFree at

    new_made : (h : Heap) (k : ClassKey) → w.is_a k som_object ≡ true → Keeps w h (make w k Nil) (make w k Nil) (λ r g. has_type w g (types.Class k) (To r) ≡ true)
    new_made h k e = make_keeps w known sound h k Nil e (λ g le c d. refl)

    new_keeps : (h : Heap) → is_there w h self ≡ true → Keeps w h (new_body w call at self) (new_body w checked at self) (Has w an_object)
    new_keeps h e =
        let init : Calls → Ref → Act Value = λ c r. offset_call w c at Offset som_init (To r) [] >>= λ v. pure (To r) in
        let of : Calls → ClassKey → Act Value = λ c k. make w k Nil >>= init c in
        bind_keeps w h (λ k g. w.is_a k som_object ≡ true) (Has w an_object) (of call) (of checked)
        (λ k g le ty d. bind_keeps w g (λ r l. has_type w l (types.Class k) (To r) ≡ true) (Has w an_object) (init call) (init checked)
        (λ r g2 le2 ty2 f. bind_keeps w g2 (Has w types.Void) (Has w an_object) (λ v. pure (To r)) (λ v. pure (To r))
        (λ v g3 le3 ty3 u. pure_keeps w g3 (Has w an_object) (To r) (λ l lf tf. object_up w known sound l k (To r) tf (type_later w g2 l (later_on g2 g3 l le3 lf) (types.Class k) (To r) f)))
        (offset_call w call at Offset som_init (To r) []) (offset_call w checked at Offset som_init (To r) [])
        (own_keeps w known sound call checked keep g2 at Offset som_init (To r) [] _ sound.init (object_up w known sound g2 k (To r) ty2 f) refl))
        (make w k Nil) (make w k Nil) (new_made g k d))
        (tried at (stands_for self)) (tried at (stands_for self)) (tried_keeps w h (λ k g. w.is_a k som_object ≡ true) at (stands_for self) (λ g le ty. stands_typed h self e))

    no_init_keeps : (h : Heap) → is_there w h self ≡ true → Keeps w h (new_no_init_body w call at self) (new_no_init_body w checked at self) (Has w an_object)
    no_init_keeps h e =
        let of : ClassKey → Act Value = λ k. make w k Nil >>= λ r. pure (To r) in
        bind_keeps w h (λ k g. w.is_a k som_object ≡ true) (Has w an_object) of of
        (λ k g le ty d. bind_keeps w g (λ r l. has_type w l (types.Class k) (To r) ≡ true) (Has w an_object) (λ r. pure (To r)) (λ r. pure (To r))
        (λ r g2 le2 ty2 f. pure_keeps w g2 (Has w an_object) (To r) (λ l lf tf. object_up w known sound l k (To r) tf (type_later w g2 l lf (types.Class k) (To r) f)))
        (make w k Nil) (make w k Nil) (new_made g k d))
        (tried at (stands_for self)) (tried at (stands_for self)) (tried_keeps w h (λ k g. w.is_a k som_object ≡ true) at (stands_for self) (λ g le ty. stands_typed h self e))

    -- a body of the kernel's answers its result
    kernel_keeps : (h : Heap) (b : KernelBody) (args : List Value) → has_type w h an_object (To self) ≡ true → kernel_reads w b args h ≡ true → Keeps w h (kernel_does w call at self b args) (kernel_does w checked at self b args) (Has w (kernel_result b))
    kernel_keeps h Idle args e a = pure_keeps w h (Has w types.Void) Nil (λ g le ty. refl)
    kernel_keeps h Free args e a = free_keeps h self e
    kernel_keeps h New args e a = new_keeps h (both (is_there w h self) (w.is_a (class_of w h self) som_object) e).0
    kernel_keeps h NewNoInit args e a = no_init_keeps h (both (is_there w h self) (w.is_a (class_of w h self) som_object) e).0
    kernel_keeps h FindClass args e a = found_keeps h (class_found w args) (class_is args)
    kernel_keeps h (Asks q) args e a = asked_keeps w h (Has w (kernel_result (Asks q))) at (asks w q self args) (λ g le ty.
        asks_typed g q self args ty (there_later w h g le self (both (is_there w h self) (w.is_a (class_of w h self) som_object) e).0) (types_later w h g le (reads (Asks q)) args a))

    -- a target is of the class that self is a proxy of
    target_typed : (h : Heap) (c : ClassKey) (r : Ref) → AreTyped w h → has_type w h (types.Class (keys.Proxy c)) (To r) ≡ true → has_type w h (types.Class c) (target_of h r) ≡ true
    target_typed h c (Object i) t e =
        let p = both (is_there w h (Object i)) (w.is_a (class_of w h (Object i)) (keys.Proxy c)) e in
        let x = some_is (slice_get h.objects i) p.0 in
        ap (λ (o : Option Instance). has_type w h (types.Class c) (targets_in o)) x.1
        ∙ t.targets i x.0 c x.1 (ap (λ (o : Option Instance). w.is_a (elim o [ None ↦ som_object | Some z ↦ z.class ]) (keys.Proxy c)) (sym x.1) ∙ p.1)
    target_typed h c (ClassObject k) t e = refl
    target_typed h c Manager t e = refl

    target_there : (h : Heap) (c : ClassKey) (m : MethodRef) (r : Ref) → w.is_a c m.class ≡ true → AreTyped w h → has_type w h (types.Class (keys.Proxy c)) (To r) ≡ true → has_target w m r h ≡ true
    target_there h c m (Object i) d t e = class_up w known sound h c m.class (target_of h (Object i)) d (target_typed h c (Object i) t e)
    target_there h c m (ClassObject k) d t e = absurd (sound.real k c (both (w.is_a k som_object) (w.is_a (w.meta k) (keys.Proxy c)) e).1)
    target_there h c m Manager d t e = absurd (sound.real_manager c e)

    forward_keeps : (h : Heap) (c : ClassKey) (r : MethodRef) (args : List Value) (s : Sig) → has_type w h (types.Class (keys.Proxy c)) (To self) ≡ true → w.is_a c r.class ≡ true → w.sig r ≡ Some s → have_types w h s.params args ≡ true
        → Keeps w h (forward_body w call at self r args) (forward_body w checked at self r args) (Has w s.result)
    forward_keeps h c r args s e d is a =
        let on : Calls → Value → Act Value = λ z v. offset_call w z at Forward r v args in
        let find : Calls → Act Value = λ z. asked at (λ l. Ok (target_of l self)) >>= on z in
        bind_keeps w h (Any w) (Has w s.result) (λ x. find call) (λ x. find checked)
        (λ x g le ty u. bind_keeps w g (Has w (types.Class r.class)) (Has w s.result) (on call) (on checked)
        (λ v g2 le2 ty2 f. offset_keeps w known sound call checked keep g2 at Forward r v args s (ap w.sig (sound.own r s is) ∙ is) f (types_later w h g2 (later_on h g g2 le le2) s.params args a))
        (asked at (λ l. Ok (target_of l self))) (asked at (λ l. Ok (target_of l self)))
        (asked_keeps w g (Has w (types.Class r.class)) at (λ l. Ok (target_of l self)) (λ l lf tf. class_up w known sound l c r.class (target_of l self) d (target_typed l c self tf (type_later w h l (later_on h g l le lf) (types.Class (keys.Proxy c)) (To self) e)))))
        (asked at (λ l. live l self)) (asked at (λ l. live l self)) (asked_keeps w h (Any w) at (λ l. live l self) (λ l lf tf. answers_if (is_live l self) self faults.Freed (λ r. Unit {0}) tt))

  module _ (otherwise : Act (Unit {0})) (call checked : Calls) (keep : CallsKeep w call checked) where
    -- a body that fits its signature
    pub body_keeps : (h : Heap) (b : Held) (x : ClassKey) (r : MethodRef) (self : Ref) (args : List Value) (s : Sig) → w.sig r ≡ Some s → IsBody w known x r s b → has_type w h (types.Class x) (To self) ≡ true → have_types w h s.params args ≡ true → AreTyped w h
        → Keeps w h (body_does w call b x r self args) (body_checked otherwise w checked b x r self args) (Has w s.result)
    body_keeps h (held.User block) x r self args s is (c, key, class, ok) e a ty =
        let here : Here = record { me = To self; place = InBody x r.name } in
        bind_keeps w h (FlowHas w s.result s.params) (Has w s.result) (λ flow. pure (answer_of (result_zero (w.sig r)) flow)) (λ flow. pure (answer_of (result_zero (w.sig r)) flow))
        (λ flow g le ty f. pure_keeps w g (Has w s.result) (answer_of (result_zero (w.sig r)) flow) (λ l lf tf. type_later w g l lf s.result (answer_of (result_zero (w.sig r)) flow) (answer_has w g s (w.sig r) flow is f)))
        (run_block w call here block args) (checked_block otherwise w checked here block args)
        (block_keeps w known sound otherwise call checked keep here (in_body c s.result) block s.params ok.0 ok.1 h args (class, sym key, subst (λ k. has_type w h (types.Class k) (To self) ≡ true) (sym key) e, (self, refl)) a)
    body_keeps h (held.Get n) x r self args s is (same, some_type, none) e a ty =
        let slot : (g : Heap) → IsLater h g → has_slot w x n (To self) g ≡ true = λ g le. both_true (stands w x (To self) g) (not (is_void (w.variable x n))) (type_later w h g le (types.Class x) (To self) e) (ap (λ z. not (is_void z)) same ∙ ap not some_type) in
        check_keeps w otherwise h (Has w s.result) (has_slot w x n (To self)) (asked (InBody x r.name) (read x n (To self))) (asked (InBody x r.name) (read x n (To self))) (λ g le ty. slot g le)
        (asked_keeps w h (Has w s.result) (InBody x r.name) (read x n (To self)) (λ g le ty. subst (λ z. Answers (read x n (To self) g) (λ u. has_type w g z u ≡ true)) same (reads_typed w known sound g x n (To self) ty (slot g le))))
    body_keeps h (held.Set n) x r self args s is (void, some_type, one) e a ty =
        let place = InBody x r.name in
        let args_are : have_types w h (w.variable x n ∷ []) args ≡ true = subst (λ z. have_types w h z args ≡ true) one a in
        let does : Act Value = assign place x n (To self) (first_argument args) >> pure Nil in
        check_keeps w otherwise h (Has w s.result) (λ g. has_slot w x n (To self) g && have_types w g (w.variable x n ∷ []) args) does does
        (λ g le ty. both_true (has_slot w x n (To self) g) (have_types w g (w.variable x n ∷ []) args)
        (both_true (stands w x (To self) g) (not (is_void (w.variable x n))) (type_later w h g le (types.Class x) (To self) e) (ap not some_type)) (types_later w h g le (w.variable x n ∷ []) args args_are))
        (bind_keeps w h (Any w) (Has w s.result) (λ u. pure Nil) (λ u. pure Nil)
        (λ u g le ty f. pure_keeps w g (Has w s.result) Nil (λ l lf tf. ap (λ z. has_type w l z Nil) void))
        (assign place x n (To self) (first_argument args)) (assign place x n (To self) (first_argument args)) (assign_keeps w h place x n (To self) (first_argument args) (first_typed w h (w.variable x n) args args_are)))
    body_keeps h (held.OfKernel name) x r self args s is (row, fits) e a ty =
        let b = kernel_body table name in
        let object = object_up w known sound h x (To self) ty e in
        let read_by : (g : Heap) → IsLater h g → kernel_reads w b args g ≡ true = λ g le. read_in b fits.1 g (types_later w h g le s.params args a) in
        check_keeps w otherwise h (Has w s.result) (kernel_can w name args) (kernel_does w call (InBody x r.name) self b args) (kernel_does w checked (InBody x r.name) self b args)
        (λ g le ty. both_true (some (λ row. bytes_eq row.0 name) table) (kernel_reads w b args g) row (read_by g le))
        (subst (λ z. Keeps w h (kernel_does w call (InBody x r.name) self b args) (kernel_does w checked (InBody x r.name) self b args) (Has w z)) (sym fits.0)
        (kernel_keeps otherwise call checked keep (InBody x r.name) self h b args object (read_by h (later_self h))))
      where
        read_in : (b : KernelBody) → (s.params ≡ reads b) ⊎ (b ≡ Idle) → (g : Heap) → have_types w g s.params args ≡ true → kernel_reads w b args g ≡ true
        read_in Idle p g f = refl
        read_in Free (inl p) g f = subst (λ z. have_types w g z args ≡ true) p f
        read_in New (inl p) g f = subst (λ z. have_types w g z args ≡ true) p f
        read_in NewNoInit (inl p) g f = subst (λ z. have_types w g z args ≡ true) p f
        read_in FindClass (inl p) g f = subst (λ z. have_types w g z args ≡ true) p f
        read_in (Asks q) (inl p) g f = subst (λ z. have_types w g z args ≡ true) p f
        read_in Free (inr p) g f = absurd (let z = p in cc)
        read_in New (inr p) g f = absurd (let z = p in cc)
        read_in NewNoInit (inr p) g f = absurd (let z = p in cc)
        read_in FindClass (inr p) g f = absurd (let z = p in cc)
        read_in (Asks q) (inr p) g f = absurd (let z = p in cc)
    body_keeps h held.Forward x r self args s is (c, key, d) e a ty =
        let proxy : has_type w h (types.Class (keys.Proxy c)) (To self) ≡ true = subst (λ k. has_type w h (types.Class k) (To self) ≡ true) key e in
        check_keeps w otherwise h (Has w s.result) (has_target w r self) (forward_body w call (InBody x r.name) self r args) (forward_body w checked (InBody x r.name) self r args)
        (λ g le ty. target_there otherwise call checked keep (InBody x r.name) self g c r self d ty (type_later w h g le (types.Class (keys.Proxy c)) (To self) proxy))
        (forward_keeps otherwise call checked keep (InBody x r.name) self h c r args s proxy d is a)
    body_keeps h held.Nothing x r self args s is void e a ty = pure_keeps w h (Has w s.result) Nil (λ g le ty. ap (λ z. has_type w g z Nil) void)
