-- Each step takes a unit, or makes the weight of the task smaller; it tells of the body that it invokes; and spent it has changed nothing.
use Rattle.std.proofs.Common.{◌≡◌, ◌<◌, ◌≤◌, ◌+◌, ◌*◌, ℕ, zero, suc, List, [], ◌∷◌, length, drop, slice_get, Option, Some, None, Bool, true, false, if◌then◌else◌, Ok, refl, subst, arith}
use Rattle.som_model.specs.declared.key.ClassKey.{ClassKey}
use Rattle.som_model.specs.declared.key.MethodRef.{MethodRef}
use Rattle.som_model.specs.declared.key.ValueType.{ValueType}
use Rattle.som_model.specs.declared.program.Fault.TheVariants as faults
use Rattle.som_model.specs.Kernel.{som_new, som_init, som_uninit, som_dispatch_name}
use Rattle.som_model.specs.Implementation.{Held}
use Rattle.som_model.specs.Implementation as held
use Rattle.som_semantics.specs.World.{World}
use Rattle.som_semantics.specs.State.{Value, Nil, Str, To, Ref, Object, ClassObject, Manager, State, Place, InBody, Manner, Offset, Lookup, Dispatch, Forward, Parent, Used, live, receiver, class_of, target_of, freed, Called}
use Rattle.som_semantics.specs.Runs.{Ran, Goes, Ends, follow, Act}
use Rattle.som_semantics.specs.Acts.{◌>>=◌, pure, tried, asked, emit, become, freed_stays, make, take_unit}
use Rattle.som_semantics.specs.Values.{cast, text_of, sig_fits}
use Rattle.som_semantics.specs.Calls.{Request, Here, class_here, parent_at, found}
use Rattle.som_semantics.specs.Expressions.{read}
use Rattle.som_semantics.specs.Statements.{assign}
use Rattle.som_semantics.specs.Invoked.{first_argument, stands_for, class_found, found_object, asks, KernelBody, Idle, Free, New, NewNoInit, FindClass, Asks, kernel_body, table}
use Rattle.som_code.specs.declared.instruction.Instruction.{Instruction}
use Rattle.som_code.specs.declared.instruction.Instruction.TheVariants as ops
use Rattle.som_code.specs.Machine as machine
use Rattle.som_code.specs.Machine.{On, Over}
use Rattle.som_code.specs.Effect.{Conf, top, below, arguments, plain}
use Rattle.som_code.specs.Sound.{is_turn, is_led, IsSound}
use Rattle.som_machine_laws.specs.Frames.{Body, Invocation, Now, Running, Calling, Invoking, Answering, Waiting, ForCall, ForHook, ForMethod, ForObject, ForInit, ForUninit, ForName, ForParent, Frames}
use Rattle.som_machine_laws.specs.Passed.{passes_offset, passes_named, passes_parent, own_self}
use Rattle.som_machine_laws.specs.Step.{Step, frames, go, makes, waits, free_begins, new_begins, new_no_init_begins, forward_begins, kernel_begins, stands_at, goes_past, answered, after_body, next_parent, resume, obey, obey_at, begins, invoke_next, call_at, next}
use Rattle.som_machine_laws.specs.CallBodies.{call_bodies}
use Rattle.som_machine_laws.specs.Tested.{Tests, passes, place_of}
use Rattle.som_machine_laws.specs.Weight.{room, cost, body_weight, waiting_weight, all_weight, weight, IsNowSound}
use Rattle.som_machine_laws.specs.Counts.{invokes}
use Rattle.som_machine_laws.proofs.Calm.{Calm, calm_pure, calm_fault, calm_tried, calm_asked, calm_reading, calm_used, calm_freed, calm_make, calm_more, calm_before, calm_after, calm_assign, calm_bind, Steady, steady_on, steady_over, steady_fault, steady_bind, takes_call, takes_then, Fine, none, fine_steady, fine_takes, fine_call, calm_passes}
use Rattle.som_machine_laws.proofs.Lighter.{less_by_cost, room_next}
use Rattle.som_machine_laws.proofs.Plain.{Nearer, IsSteady, steady, takes, plain_steady}

-- ---- calls that are tested

module _ (P : Frames → Type 0) (w : World) (after : Request → Step) (h : (q : Request) → Steady P (after q)) where
  offset_steady : (at : Place) (way : Manner) (method : MethodRef) (on : Value) (args : List Value) → Steady P (passes_offset w after at way method on args)
  offset_steady at way method on args =
      let request : Ref → Request = λ self. record { from = at; way = way; self = self; parent = None; method = w.owner method; args = args } in
      steady_bind P (asked at (λ h. receiver h on)) (λ self. after (request self)) (calm_asked at (λ h. receiver h on)) (λ self. h (request self))

  named_steady : (at : Place) (way : Manner) (wanted : ValueType) (name : List ℕ) (on : Value) (args : List Value) → Steady P (passes_named w after at way wanted name on args)
  named_steady at way wanted name on args =
      let request : Ref → MethodRef → Request = λ self method. record { from = at; way = way; self = self; parent = None; method = method; args = args } in
      let tested : Ref → MethodRef → Step = λ self method. asked at (λ h. sig_fits w h (w.sig method) wanted args) >>= λ _. after (request self method) in
      steady_bind P (asked at (λ h. receiver h on)) (λ self. asked at (λ h. found (w.byname (class_of w h self) name)) >>= tested self) (calm_asked at (λ h. receiver h on))
      (λ self. steady_bind P (asked at (λ h. found (w.byname (class_of w h self) name))) (tested self) (calm_asked at (λ h. found (w.byname (class_of w h self) name)))
      (λ method. steady_bind P (asked at (λ h. sig_fits w h (w.sig method) wanted args)) (λ _. after (request self method)) (calm_asked at (λ h. sig_fits w h (w.sig method) wanted args)) (λ _. h (request self method))))

  parent_steady : (from : Here) (p : ClassKey) (method : MethodRef) (args : List Value) → Steady P (passes_parent w after from p method args)
  parent_steady from p method args =
      let request : Ref → Request = λ self. record { from = from.place; way = Parent; self = self; parent = Some p; method = w.owner method; args = args } in
      steady_bind P (tried from.place (own_self from.me)) (λ self. after (request self)) (calm_tried from.place (own_self from.me)) (λ self. h (request self))

module _ (w : World) where
  abbrev Below : ℕ → Frames → Type 0
  Below n fs = weight w fs < n

  makes_steady : (n l : ℕ) (ks : List Waiting) → 2 + all_weight w ks < n → (q : Request) → Steady (Below n) (makes l ks q)
  makes_steady n l ks lt q = steady_on (Below n) (frames (Calling l q) ks) lt

  parents_steady : (n l : ℕ) (from : Here) (method : MethodRef) (args : List Value) (ks : List Waiting) (ps : List ClassKey) → 3 * length ps + all_weight w ks < n → Steady (Below n) (next_parent w l from ps method args ks)
  parents_steady n l from method args ks [] lt = steady_on (Below n) (frames (Answering Nil) ks) (let lt' : 0 + all_weight w ks < n = omega (arith, lt) in lt')
  parents_steady n l from method args ks (p ∷ ps) lt =
      let next : 3 * length ps + all_weight w ks < n = omega (arith, lt) in
      descends (w.is_a p (w.owner method).class) (parents_steady n l from method args ks ps next) where
        descends : (b : Bool) → Steady (Below n) (next_parent w l from ps method args ks)
            → Steady (Below n) (if b then passes_parent w (makes l (ForParent l from ps method args ∷ ks)) from p method args else next_parent w l from ps method args ks)
        descends true rest =
            let lower : 2 + (3 * length ps + 1 + all_weight w ks) < n = omega (arith, lt) in
            parent_steady (Below n) w (makes l (ForParent l from ps method args ∷ ks)) (makes_steady n l (ForParent l from ps method args ∷ ks) lower) from p method args
        descends false rest = rest

  -- ---- a value that comes to what waits for it

  pub resume_steady : (k : Waiting) (v : Value) (ks : List Waiting) → Steady (Below (waiting_weight w k + all_weight w ks)) (resume w k v ks)
  resume_steady (ForCall b) v ks = steady_on _ (frames (Running (answered b v)) ks) (omega arith)
  resume_steady (ForHook left) v ks = steady_on _ (frames (Invoking left) ks) (omega arith)
  resume_steady (ForMethod l is) v ks = steady_on _ (frames (Invoking (record { levels = l; bodies = is; answer = v })) ks) (omega arith)
  resume_steady (ForObject at k) v ks = steady_bind (Below (1 + all_weight w ks)) (asked at (λ h. cast w k h v)) (λ u. go (Answering u) ks) (calm_asked at (λ h. cast w k h v)) (λ u. steady_on _ (frames (Answering u) ks) (omega arith))
  resume_steady (ForInit r) v ks = steady_on _ (frames (Answering (To r)) ks) (omega arith)
  resume_steady (ForUninit at r) v ks =
      steady_bind (Below (1 + all_weight w ks)) (asked at (λ h. live h r)) (λ _. become (freed r) (freed_stays r) >>= λ _. go (Answering Nil) ks) (calm_asked at (λ h. live h r))
      (λ _. steady_bind (Below (1 + all_weight w ks)) (become (freed r) (freed_stays r)) (λ _. go (Answering Nil) ks) (calm_freed r) (λ _. steady_on _ (frames (Answering Nil) ks) (omega arith)))
  resume_steady (ForName l at wanted on args) v ks = named_steady (Below (3 + all_weight w ks)) w (makes l ks) (makes_steady (3 + all_weight w ks) l ks (omega arith)) at Dispatch wanted (text_of v) on args
  resume_steady (ForParent l from ps method args) v ks = parents_steady (3 * length ps + 1 + all_weight w ks) l from method args ks ps (omega arith)

  -- ---- an instruction

  calls_lower : (c n x y extra rest : ℕ) → c ≡ 3 * n + 8 → x + c ≤ y → extra ≤ 3 * n + 4 → 2 + (extra + (x + 2 + rest)) < suc y + rest
  calls_lower c n x y extra rest is less few = omega (arith, is, less, few)

  goes_lower : (c n x y rest : ℕ) → c ≡ 3 * n + 8 → x + c ≤ y → suc x + rest < suc y + rest
  goes_lower c n x y rest is less = omega (arith, is, less)

  module _ (b : Body) (ks : List Waiting) where
    abbrev parents : ℕ
    parents = length (w.parents (class_here b.here))

    abbrev Lighter : Frames → Type 0
    Lighter = Below (weight w (frames (Running b) ks))

    module _ (i : Instruction) (is : slice_get b.code b.conf.at ≡ Some i) (led : is_led b.code b.conf.at i ≡ true) where
      -- in its code
      after_steady : (m : Act (machine.After Conf Value)) → Steady (Nearer w b.here b.zero_value b.code b.conf.at) m → Steady Lighter (m >>= λ x. pure (after_body b ks x))
      after_steady m h = record { calm = calm_bind m (λ x. pure (after_body b ks x)) h.calm (λ x. calm_pure (after_body b ks x)); only = λ s fs t e. by s (m.does s) refl fs t e } where
        frames_are : (x y : Frames) (s t : State) → ◌≡◌ {A = Ran (machine.After Frames (Unit {0}))} (Goes (On x) s) (Goes (On y) t) → x ≡ y
        frames_are x y s t e = cc

        by : (s : State) (r : Ran (machine.After Conf Value)) → m.does s ≡ r → (fs : Frames) (t : State) → follow r (λ x u. Goes (after_body b ks x) u) ≡ Goes (On fs) t → Lighter fs
        by s (Goes (On c) u) e fs t g =
            let near : room b.code c.at < room b.code b.conf.at = h.only s c u e in
            let less = less_by_cost (cost w b) (room b.code c.at) (room b.code b.conf.at) near in
            subst Lighter (frames_are (frames (Running (stands_at b c)) ks) fs u t g) (goes_lower (cost w b) parents (cost w b * room b.code c.at) (cost w b * room b.code b.conf.at) (all_weight w ks) refl less)
        by s (Goes (Over v) u) e fs t g = subst Lighter (frames_are (frames (Answering v) ks) fs u t g) (omega arith)
        by s (Ends c u) e fs t g = absurd cc

      plain_fine : Fine Lighter none (plain w b.here b.zero_value i b.conf.at b.conf.stack b.conf.locals >>= λ x. pure (after_body b ks x))
      plain_fine = by (plain_steady w b.here b.zero_value b.code b.conf.at i is led) where
        by : IsSteady w b.here b.zero_value b.code b.conf.at i → Fine Lighter none (plain w b.here b.zero_value i b.conf.at b.conf.stack b.conf.locals >>= λ x. pure (after_body b ks x))
        by (steady h) = fine_steady Lighter _ (after_steady (plain w b.here b.zero_value i b.conf.at b.conf.stack b.conf.locals) (h b.conf.stack b.conf.locals))
        by (takes h) = fine_takes Lighter _ (takes_then 0 (λ x. pure (after_body b ks x)) (λ x. calm_pure (after_body b ks x)) (plain w b.here b.zero_value i b.conf.at b.conf.stack b.conf.locals) (h b.conf.stack b.conf.locals))

    -- a call, for which these wait, and then the body
    call_lower : (i : Instruction) → slice_get b.code b.conf.at ≡ Some i → is_turn (Some i) ≡ false → (extra : ℕ) (st : List Value) → extra ≤ 3 * parents + 4
        → 2 + (extra + (body_weight w (goes_past b st) + 2 + all_weight w ks)) < weight w (frames (Running b) ks)
    call_lower i is other extra st few =
        let near : room b.code (b.conf.at + 1) < room b.code b.conf.at = room_next b.code b.conf.at i is other in
        calls_lower (cost w b) parents (cost w b * room b.code (b.conf.at + 1)) (cost w b * room b.code b.conf.at) extra (all_weight w ks) refl (less_by_cost (cost w b) (room b.code (b.conf.at + 1)) (room b.code b.conf.at) near) few

    call_steady : (i : Instruction) → slice_get b.code b.conf.at ≡ Some i → is_turn (Some i) ≡ false → (st : List Value) (q : Request) → Steady Lighter (makes b.levels (ForCall (goes_past b st) ∷ ks) q)
    call_steady i is other st q =
        let lower = call_lower i is other 0 st (omega arith) in
        let lt : 2 + (body_weight w (goes_past b st) + 2 + all_weight w ks) < weight w (frames (Running b) ks) = omega (arith, lower) in
        makes_steady (weight w (frames (Running b) ks)) b.levels (ForCall (goes_past b st) ∷ ks) lt q

    pub obey_fine : (i : Instruction) → slice_get b.code b.conf.at ≡ Some i → is_led b.code b.conf.at i ≡ true → Fine Lighter none (obey w i b ks)
    obey_fine (ops.New k) is led = fine_steady Lighter _ (
        let called : List Waiting = ForObject b.here.place k ∷ ForCall (goes_past b b.conf.stack) ∷ ks in
        steady_bind Lighter (emit (Used k)) (λ _. passes_offset w (makes b.levels called) b.here.place Offset som_new (To (ClassObject k)) []) (calm_used k)
        (λ _. offset_steady Lighter w (makes b.levels called) (makes_steady (weight w (frames (Running b) ks)) b.levels called (call_lower (ops.New k) is refl 1 b.conf.stack (omega arith))) b.here.place Offset som_new (To (ClassObject k)) []))
    obey_fine (ops.OffsetCall method n) is led = fine_steady Lighter _
        (offset_steady Lighter w (makes b.levels (ForCall (goes_past b (below (drop n b.conf.stack))) ∷ ks)) (call_steady (ops.OffsetCall method n) is refl (below (drop n b.conf.stack))) b.here.place Offset method (top (drop n b.conf.stack)) (arguments n b.conf.stack))
    obey_fine (ops.Lookup wanted name n) is led = fine_steady Lighter _
        (named_steady Lighter w (makes b.levels (ForCall (goes_past b (below (drop n b.conf.stack))) ∷ ks)) (call_steady (ops.Lookup wanted name n) is refl (below (drop n b.conf.stack))) b.here.place Lookup wanted name (top (drop n b.conf.stack)) (arguments n b.conf.stack))
    obey_fine (ops.Dispatch wanted name n) is led = fine_steady Lighter _ (
        let on : Value = top (drop n b.conf.stack) in
        let called : List Waiting = ForName b.levels b.here.place wanted on (arguments n b.conf.stack) ∷ ForCall (goes_past b (below (drop n b.conf.stack))) ∷ ks in
        offset_steady Lighter w (makes b.levels called) (makes_steady (weight w (frames (Running b) ks)) b.levels called (call_lower (ops.Dispatch wanted name n) is refl 3 (below (drop n b.conf.stack)) (omega arith))) b.here.place Offset som_dispatch_name on (Str name ∷ []))
    obey_fine (ops.ParentCall parent method n) is led = fine_steady Lighter _
        (parent_steady Lighter w (makes b.levels (ForCall (goes_past b (drop n b.conf.stack)) ∷ ks)) (call_steady (ops.ParentCall parent method n) is refl (drop n b.conf.stack)) b.here (parent_at (w.parents (class_here b.here)) parent) method (arguments n b.conf.stack))
    obey_fine (ops.ParentsCall method n) is led = fine_steady Lighter _ (
        let lower = call_lower (ops.ParentsCall method n) is refl (3 * parents) (drop n b.conf.stack) (omega arith) in
        let lt : 3 * parents + (body_weight w (goes_past b (drop n b.conf.stack)) + 2 + all_weight w ks) < weight w (frames (Running b) ks) = omega (arith, lower) in
        parents_steady (weight w (frames (Running b) ks)) b.levels b.here method (arguments n b.conf.stack) (ForCall (goes_past b (drop n b.conf.stack)) ∷ ks) (w.parents (class_here b.here)) lt)
    obey_fine i is led = plain_fine i is led

    pub running_fine : IsSound b.code → (o : Option Instruction) → slice_get b.code b.conf.at ≡ o → Fine Lighter none (obey_at w o b ks)
    running_fine sound None e = fine_steady Lighter _ (steady_on Lighter (frames (Answering b.zero_value) ks) (omega arith))
    running_fine sound (Some i) e = obey_fine i e (sound.led b.conf.at i e)

  -- ---- a body that begins

  abbrev Any : Frames → Type 0
  Any fs = Unit {0}

  any_makes : (l : ℕ) (ks : List Waiting) (q : Request) → Steady Any (makes l ks q)
  any_makes l ks q = steady_on Any (frames (Calling l q) ks) (tt {0})

  module _ (l : ℕ) (at : Place) (self : Ref) (ks : List Waiting) where
    free_calm : (r : Ref) → Calm 0 (free_begins w l at self ks r)
    free_calm (Object i) = (offset_steady Any w (makes l (ForUninit at self ∷ ks)) (any_makes l (ForUninit at self ∷ ks)) at Offset som_uninit (To self) []).calm
    free_calm (ClassObject k) = calm_fault faults.ClassFree at
    free_calm Manager = calm_fault faults.ClassFree at

    new_calm : Calm 1 (new_begins w l at self ks)
    new_calm =
        let begun : Ref → Step = λ r. passes_offset w (makes l (ForInit r ∷ ks)) at Offset som_init (To r) [] in
        calm_before (tried at (stands_for self)) (λ k. make w k Nil >>= begun) (calm_tried at (stands_for self))
        (λ k. calm_after (make w k Nil) begun (calm_make w k Nil)
        (λ r. (offset_steady Any w (makes l (ForInit r ∷ ks)) (any_makes l (ForInit r ∷ ks)) at Offset som_init (To r) []).calm))

    new_no_init_calm : Calm 1 (new_no_init_begins w l at self ks)
    new_no_init_calm =
        calm_before (tried at (stands_for self)) (λ k. make w k Nil >>= λ r. go (Answering (To r)) ks) (calm_tried at (stands_for self))
        (λ k. calm_after (make w k Nil) (λ r. go (Answering (To r)) ks) (calm_make w k Nil) (λ r. calm_pure (On (frames (Answering (To r)) ks))))

    forward_calm : (method : MethodRef) (args : List Value) → Calm 0 (forward_begins w l at self ks method args)
    forward_calm method args =
        let begun : Value → Step = λ on. passes_offset w (makes l ks) at Forward method on args in
        calm_bind (asked at (λ h. live h self)) (λ _. asked at (λ h. Ok (target_of h self)) >>= begun) (calm_asked at (λ h. live h self))
        (λ _. calm_bind (asked at (λ h. Ok (target_of h self))) begun (calm_asked at (λ h. Ok (target_of h self)))
        (λ on. (offset_steady Any w (makes l ks) (any_makes l ks) at Forward method on args).calm))

    found_calm : (o : Option ClassKey) → Calm 0 (found_object o)
    found_calm None = calm_pure Nil
    found_calm (Some k) = calm_bind (emit (Used k)) (λ _. pure (To (ClassObject k))) (calm_used k) (λ _. calm_pure (To (ClassObject k)))

    answered_calm : (m : Act Value) → Calm 0 m → Calm 0 (m >>= λ v. go (Answering v) ks)
    answered_calm m c = calm_bind m (λ v. go (Answering v) ks) c (λ v. calm_pure (On (frames (Answering v) ks)))

    kernel_calm : (b : KernelBody) (args : List Value) → Calm 1 (kernel_begins w l at self ks b args)
    kernel_calm Idle args = calm_more (go (Answering Nil) ks) (calm_pure (On (frames (Answering Nil) ks)))
    kernel_calm Free args = calm_more (free_begins w l at self ks self) (free_calm self)
    kernel_calm New args = new_calm
    kernel_calm NewNoInit args = new_no_init_calm
    kernel_calm FindClass args = calm_more (found_object (class_found w args) >>= λ v. go (Answering v) ks) (answered_calm (found_object (class_found w args)) (found_calm (class_found w args)))
    kernel_calm (Asks q) args = calm_more (asked at (asks w q self args) >>= λ v. go (Answering v) ks) (answered_calm (asked at (asks w q self args)) (calm_asked at (asks w q self args)))

  module _ (tests : Tests) where
    begins_calm : (i : Invocation) (b : Held) (l : ℕ) (ks : List Waiting) → Calm 1 (begins w tests i b l ks)
    begins_calm i (held.User block) l ks = calm_more _ (calm_pure (On _))
    begins_calm i (held.Get n) l ks =
        let at = InBody i.class i.method.name in
        calm_more (asked at (read i.class n (To i.self)) >>= λ v. go (Answering v) ks) (answered_calm l at i.self ks (asked at (read i.class n (To i.self))) (calm_asked at (read i.class n (To i.self))))
    begins_calm i (held.Set n) l ks =
        let set = assign (InBody i.class i.method.name) i.class n (To i.self) (first_argument i.args) in
        calm_more (set >>= λ _. go (Answering Nil) ks) (calm_bind set (λ _. go (Answering Nil) ks) (calm_assign (InBody i.class i.method.name) i.class n (To i.self) (first_argument i.args)) (λ _. calm_pure (On (frames (Answering Nil) ks))))
    begins_calm i (held.OfKernel name) l ks = kernel_calm l (InBody i.class i.method.name) i.self ks (kernel_body table name) i.args
    begins_calm i held.Forward l ks = calm_more (forward_begins w l (InBody i.class i.method.name) i.self ks i.method i.args) (forward_calm l (InBody i.class i.method.name) i.self ks i.method i.args)
    begins_calm i held.Nothing l ks = calm_more (go (Answering Nil) ks) (calm_pure (On (frames (Answering Nil) ks)))

    invoke_fine : (l : ℕ) (is : List Invocation) (v : Value) (ks : List Waiting) → Fine (Below (1 + all_weight w ks)) (invokes tests (Invoking (record { levels = l; bodies = is; answer = v }))) (invoke_next w tests l is v ks)
    invoke_fine l [] v ks = fine_steady (Below (1 + all_weight w ks)) (go (Answering v) ks) (steady_on (Below (1 + all_weight w ks)) (frames (Answering v) ks) (omega arith))
    invoke_fine l (i ∷ is) v ks =
        let begun : Step = begins w tests i i.body l (waits i.answers l is v ks) in
        fine_call (Below (1 + all_weight w ks)) (place_of i) (take_unit >>= λ _. emit (Called i.method i.way i.class) >>= λ _. begun)
        (takes_call i.method i.way i.class begun (begins_calm i i.body l (waits i.answers l is v ks))) (tests.body i)

    call_steady_at : (l : ℕ) (q : Request) (ks : List Waiting) → Steady (Below (2 + all_weight w ks)) (call_at w tests l q ks)
    call_steady_at zero q ks = steady_fault (Below (2 + all_weight w ks)) faults.Depth q.from
    call_steady_at (suc l) q ks = record {
      calm = calm_reading 0 (λ h. go (Invoking (record { levels = l; bodies = call_bodies w (class_of w h q.self) q; answer = Nil })) ks) (λ h. calm_pure (On _));
      only = λ s fs t e. (steady_on (Below (2 + all_weight w ks)) (frames (Invoking (record { levels = l; bodies = call_bodies w (class_of w s.heap q.self) q; answer = Nil })) ks) (omega arith)).only s fs t e;
    }

    -- each step
    pub next_fine : (now : Now) (ks : List Waiting) → IsNowSound now → Fine (Below (weight w (frames now ks))) (invokes tests now) (next w tests now ks)
    next_fine (Running b) ks sound = running_fine b ks sound (slice_get b.code b.conf.at) refl
    next_fine (Calling l q) ks sound = fine_steady (Below (2 + all_weight w ks)) _
        (steady_bind (Below (2 + all_weight w ks)) (passes q.from (tests.call q)) (λ _. call_at w tests l q ks) (calm_passes q.from (tests.call q)) (λ _. call_steady_at l q ks))
    next_fine (Invoking left) ks sound = invoke_fine left.levels left.bodies left.answer ks
    next_fine (Answering v) [] sound = fine_steady _ _ (steady_over (Below 0) (tt {0}))
    next_fine (Answering v) (k ∷ ks) sound =
        let e : waiting_weight w k + all_weight w ks ≡ 0 + (waiting_weight w k + all_weight w ks) = omega arith in
        subst (λ n. Fine (Below n) none (resume w k v ks)) e (fine_steady (Below (waiting_weight w k + all_weight w ks)) (resume w k v ks) (resume_steady k v ks))
