-- A step keeps what a task needs among the classes that are there.
use Rattle.std.proofs.Common.{◌≡◌, ◌⊎◌, inl, inr, ◌+◌, ℕ, zero, suc, Bool, true, false, if◌then◌else◌, List, [], ◌∷◌, ◌++◌, length, take, drop, reverse, slice_get, Option, Some, None, Ok, refl, sym, ap, ◌∙◌, subst}
use mathlib.Core.List.{reverse_aux}
use Rattle.som_model.specs.declared.key.ClassKey.{ClassKey}
use Rattle.som_model.specs.declared.key.ClassKey.TheVariants as keys
use Rattle.som_model.specs.declared.key.MethodRef.{MethodRef}
use Rattle.som_model.specs.declared.key.ValueType.{ValueType}
use Rattle.som_model.specs.declared.class.Sig.{Sig}
use Rattle.som_model.specs.declared.program.Fault.TheVariants as faults
use Rattle.som_model.specs.Lists.{Mem}
use Rattle.som_model.specs.Kernel.{som_new, som_init, som_uninit, som_dispatch_name, before_method, after_method}
use Rattle.som_model.specs.Implementation.{Held, is_kernel}
use Rattle.som_model.specs.Implementation as held
use Rattle.som_semantics.specs.World.{World}
use Rattle.som_semantics.specs.State.{Value, Long, Boolean, Nil, Str, To, Ref, Object, ClassObject, Manager, Heap, State, Place, InMain, InBody, Manner, Offset, Lookup, Dispatch, Before, After, Forward, Parent, Called, Used, Printed, used, live, receiver, class_of, target_of, write, freed}
use Rattle.som_semantics.specs.Runs.{Act}
use Rattle.som_semantics.specs.Acts.{◌>>=◌, pure, fault, tried, asked, emit, take_unit, become, write_stays, freed_stays, make, with_one}
use Rattle.som_semantics.specs.Values.{unary, unary_op, binary, binary_op, host, cast, isa, text_of, sig_fits}
use Rattle.som_semantics.specs.Calls.{Request, Here, class_here, parent_at, found}
use Rattle.som_semantics.specs.Expressions.{Frame, local_in, is_true, read, class_object, proxy_on}
use Rattle.som_semantics.specs.Statements.{assign, print_value}
use Rattle.som_semantics.specs.Invoked.{first_argument, stands_for, class_found, found_object, asks, KernelBody, Idle, Free, New, NewNoInit, FindClass, Asks, kernel_body, table, result_zero}
use Rattle.som_semantics.specs.Means.{body_class, hooks_of}
use Rattle.som_semantics.proofs.FuelLaws.{used_both}
use Rattle.som_code.specs.declared.instruction.Instruction.{Instruction}
use Rattle.som_code.specs.declared.instruction.Instruction.TheVariants as ops
use Rattle.som_code.specs.Machine as machine
use Rattle.som_code.specs.Machine.{On, Over}
use Rattle.som_code.specs.Effect.{Conf, conf, on, top, below, arguments, plain, push, with_local, value_of}
use Rattle.som_machine_laws.specs.Frames.{Body, Invocation, Now, Running, Calling, Invoking, Answering, Waiting, ForCall, ForHook, ForMethod, ForObject, ForInit, ForUninit, ForName, ForParent, Frames}
use Rattle.som_machine_laws.specs.CallBodies.{with_held, with_hooks, with_method, call_bodies}
use Rattle.som_machine_laws.specs.Tested.{Tests, passes, place_of}
use Rattle.som_machine_laws.specs.Passed.{passes_offset, passes_named, passes_parent, own_self}
use Rattle.som_machine_laws.specs.Step.{Step, frames, go, makes, waits, free_begins, new_begins, new_no_init_begins, forward_begins, kernel_begins, stands_at, goes_past, answered, after_body, next_parent, resume, obey, obey_at, begins, invoke_next, call_at, next}
use Rattle.som_machine_laws.specs.Needs.{AreClosed, RefIn, ValueIn, AllIn, HeapIn, PlaceIn, HereIn, BodyIn, ParentIn, RequestIn, InvocationIn, InvocationsIn, NowIn, AllMade, WaitingIn, AllWaitingIn, FramesIn}
use Rattle.som_machine_laws.proofs.Within.{Answers, Within, within_bind, within_pure, within_fault, within_tried, within_reading, within_asked, Any, within_test, within_emit, within_used, within_unit, within_become, within_make, with_one_in, write_in, freed_in, goes_is, zero_in, mem_last}
use Rattle.som_machine_laws.proofs.Values.{get_in, set_in, take_in, drop_in, arguments_in, top_in, below_in, first_in, constant_in, unary_in, binary_in, receiver_in, stands_in, target_in, read_in, class_in, cast_in, isa_in, asks_in}

module _ (w : World) (made : ClassKey → Bool) (closed : AreClosed w made) where
  abbrev V : Value → Type 0
  V = ValueIn made

  abbrev AfterIn : machine.After Frames (Unit {0}) → Type 0
  AfterIn (On fs) = FramesIn made fs
  AfterIn (Over u) = Unit {0}

  -- a step that keeps it
  abbrev Kept : Step → Type 0
  Kept m = Within made AfterIn m

  goes : (now : Now) (ks : List Waiting) → NowIn made now → AllWaitingIn made ks → Kept (go now ks)
  goes now ks n k = within_pure made AfterIn (On (frames now ks)) (record { now = n; waiting = k })

  -- ---- calls that are tested

  module _ (after : Request → Step) (h : (q : Request) → RequestIn made q → Kept (after q)) where
    offset_kept : (at : Place) (way : Manner) (method : MethodRef) (on : Value) (args : List Value) → V on → AllIn made args → Kept (passes_offset w after at way method on args)
    offset_kept at way method on args v a =
        let request : Ref → Request = λ self. record { from = at; way = way; self = self; parent = None; method = w.owner method; args = args } in
        within_bind made (RefIn made) AfterIn (asked at (λ h. receiver h on)) (λ self. after (request self)) (within_asked made (RefIn made) at (λ h. receiver h on) (λ h heap. receiver_in made h on v))
        (λ self r. h (request self) (record { self = r; parent = tt; args = a }))

    named_kept : (at : Place) (way : Manner) (wanted : ValueType) (name : List ℕ) (on : Value) (args : List Value) → V on → AllIn made args → Kept (passes_named w after at way wanted name on args)
    named_kept at way wanted name on args v a =
        let request : Ref → MethodRef → Request = λ self method. record { from = at; way = way; self = self; parent = None; method = method; args = args } in
        let tested : Ref → MethodRef → Step = λ self method. asked at (λ h. sig_fits w h (w.sig method) wanted args) >>= λ _. after (request self method) in
        within_bind made (RefIn made) AfterIn (asked at (λ h. receiver h on)) (λ self. asked at (λ h. found (w.byname (class_of w h self) name)) >>= tested self) (within_asked made (RefIn made) at (λ h. receiver h on) (λ h heap. receiver_in made h on v))
        (λ self r. within_bind made (Any made) AfterIn (asked at (λ h. found (w.byname (class_of w h self) name))) (tested self) (within_test made at (λ h. found (w.byname (class_of w h self) name)))
        (λ method u. within_bind made (Any made) AfterIn (asked at (λ h. sig_fits w h (w.sig method) wanted args)) (λ _. after (request self method)) (within_test made at (λ h. sig_fits w h (w.sig method) wanted args))
        (λ x y. h (request self method) (record { self = r; parent = tt; args = a }))))

    own_in : (v : Value) → V v → Answers (own_self v) (RefIn made)
    own_in (To r) p = p
    own_in (Long z) p = tt
    own_in (Boolean b) p = tt
    own_in (Str t) p = tt
    own_in Nil p = tt

    parent_kept : (from : Here) (p : ClassKey) (method : MethodRef) (args : List Value) → HereIn made from → made p ≡ true → AllIn made args → Kept (passes_parent w after from p method args)
    parent_kept from p method args i m a =
        let request : Ref → Request = λ self. record { from = from.place; way = Parent; self = self; parent = Some p; method = w.owner method; args = args } in
        within_bind made (RefIn made) AfterIn (tried from.place (own_self from.me)) (λ self. after (request self)) (within_tried made (RefIn made) from.place (own_self from.me) (own_in from.me i.me))
        (λ self r. h (request self) (record { self = r; parent = m; args = a }))

  made_call : (l : ℕ) (ks : List Waiting) → AllWaitingIn made ks → (q : Request) → RequestIn made q → Kept (makes l ks q)
  made_call l ks k q r = goes (Calling l q) ks r k

  -- ---- parents

  all_parents : (k : ClassKey) (ps : List ClassKey) → made k ≡ true → ((p : ClassKey) → Mem p ps → Mem p (w.parents k)) → AllMade made ps
  all_parents k [] m h = tt
  all_parents k (p ∷ ps) m h = (closed.parents k p m (h p (inl refl)), all_parents k ps m (λ q n. h q (inr n)))

  here_class : (here : Here) → PlaceIn made here.place → made (class_here here) ≡ true
  here_class here p = at here.place p where
    at : (place : Place) → PlaceIn made place → made (class_here (record { me = here.me; place = place })) ≡ true
    at InMain p = closed.object
    at (InBody k name) p = p

  parent_in : (ps : List ClassKey) (n : ℕ) → AllMade made ps → made (parent_at ps n) ≡ true
  parent_in [] n h = closed.object
  parent_in (p ∷ ps) zero h = h.0
  parent_in (p ∷ ps) (suc n) h = parent_in ps n h.1

  parents_kept : (l : ℕ) (from : Here) (ps : List ClassKey) (method : MethodRef) (args : List Value) (ks : List Waiting) → HereIn made from → AllMade made ps → AllIn made args → AllWaitingIn made ks → Kept (next_parent w l from ps method args ks)
  parents_kept l from [] method args ks i m a k = goes (Answering Nil) ks tt k
  parents_kept l from (p ∷ ps) method args ks i m a k = descends (w.is_a p (w.owner method).class) (parents_kept l from ps method args ks i m.1 a k) where
    descends : (b : Bool) → Kept (next_parent w l from ps method args ks) → Kept (if b then passes_parent w (makes l (ForParent l from ps method args ∷ ks)) from p method args else next_parent w l from ps method args ks)
    descends true rest = parent_kept (makes l (ForParent l from ps method args ∷ ks)) (made_call l (ForParent l from ps method args ∷ ks) ((i, m.1, a), k)) from p method args i m.0 a
    descends false rest = rest

  -- ---- what waits

  object_answer : (m : Act Value) (ks : List Waiting) → Within made V m → AllWaitingIn made ks → Kept (m >>= λ v. go (Answering v) ks)
  object_answer m ks p k = within_bind made V AfterIn m (λ v. go (Answering v) ks) p (λ v i. goes (Answering v) ks i k)

  resume_kept : (c : Waiting) (v : Value) (ks : List Waiting) → WaitingIn made c → V v → AllWaitingIn made ks → Kept (resume w c v ks)
  resume_kept (ForCall b) v ks i p k = goes (Running (answered b v)) ks (record { here = i.here; zero_value = i.zero_value; stack = (p, i.stack); locals = i.locals }) k
  resume_kept (ForHook left) v ks i p k = goes (Invoking left) ks i k
  resume_kept (ForMethod l is) v ks i p k = goes (Invoking (record { levels = l; bodies = is; answer = v })) ks (record { bodies = i; answer = p }) k
  resume_kept (ForObject at c) v ks i p k = object_answer (asked at (λ h. cast w c h v)) ks (within_asked made V at (λ h. cast w c h v) (λ h heap. cast_in made w closed c h v p)) k
  resume_kept (ForInit r) v ks i p k = goes (Answering (To r)) ks i k
  resume_kept (ForUninit at r) v ks i p k =
      within_bind made (Any made) AfterIn (asked at (λ h. live h r)) (λ _. become (freed r) (freed_stays r) >>= λ _. go (Answering Nil) ks) (within_test made at (λ h. live h r))
      (λ x y. within_bind made (Any made) AfterIn (become (freed r) (freed_stays r)) (λ _. go (Answering Nil) ks) (within_become made (freed r) (freed_stays r) (freed_in made r))
      (λ u z. goes (Answering Nil) ks tt k))
  resume_kept (ForName l at wanted on args) v ks i p k = named_kept (makes l ks) (made_call l ks k) at Dispatch wanted (text_of v) on args i.0 i.1
  resume_kept (ForParent l from ps method args) v ks i p k = parents_kept l from ps method args ks i.0 i.1 i.2 k

  -- ---- instructions

  abbrev ConfIn : Conf → Type 0
  ConfIn c = AllIn made c.stack × AllIn made c.locals

  abbrev AfterConf : machine.After Conf Value → Type 0
  AfterConf (On c) = ConfIn c
  AfterConf (Over v) = V v

  on_in : (a : ℕ) (st fr : List Value) → AllIn made st → AllIn made fr → Within made AfterConf (on a st fr)
  on_in a st fr s f = within_pure made AfterConf (On (conf a st fr)) (s, f)

  push_in : (m : Act Value) (a : ℕ) (st fr : List Value) → Within made V m → AllIn made st → AllIn made fr → Within made AfterConf (push m a st fr)
  push_in m a st fr p s f = within_bind made V AfterConf m (λ v. on (a + 1) (v ∷ st) fr) p (λ v i. on_in (a + 1) (v ∷ st) fr (i, s) f)

  assign_in : (at : Place) (k : ClassKey) (n : ℕ) (self v : Value) → V v → Within made (Any made) (assign at k n self v)
  assign_in at k n (To r) v p = within_bind made (Any made) (Any made) (asked at (λ h. live h r)) (λ _. become (write r k n v) (write_stays r k n v)) (within_test made at (λ h. live h r)) (λ x y. within_become made (write r k n v) (write_stays r k n v) (write_in made r k n v p))
  assign_in at k n (Long z) v p = within_fault made (Any made) faults.Nil at
  assign_in at k n (Boolean b) v p = within_fault made (Any made) faults.Nil at
  assign_in at k n (Str t) v p = within_fault made (Any made) faults.Nil at
  assign_in at k n Nil v p = within_fault made (Any made) faults.Nil at

  class_used : (k : ClassKey) → Within made V (class_object k)
  class_used k = within_bind made (λ u. made k ≡ true) V (emit (Used k)) (λ _. pure (To (ClassObject k))) (within_used made k) (λ u m. within_pure made V (To (ClassObject k)) m)

  -- a proxy's class is used where the proxy is made
  proxy_made : (k : ClassKey) (v : Value) → V v → Within made V (make w k v >>= λ r. emit (Used k) >>= λ _. pure (To r))
  proxy_made k v p = record {
    by = λ s a t e has heap.
        let u : State = record { fuel = s.fuel; events = s.events ++ Used k ∷ []; heap = with_one w k v s.heap } in
        let d = goes_is made (To (Object (length s.heap.objects))) a u t e in
        let es : s.events ++ Used k ∷ [] ≡ t.events = ap (λ (z : State). z.events) d.1 in
        let m : made k ≡ true = has k (subst (λ ks. Mem k ks) (sym (used_both s.events (Used k ∷ [])) ∙ ap used es) (mem_last k (used s.events))) in
        (subst (λ (z : State). HeapIn made z.heap) d.1 (with_one_in made w k v m p s.heap heap), subst V d.0 tt);
  }

  proxy_in : (at : Place) (k : ClassKey) (v : Value) → V v → Within made V (proxy_on w at k v)
  proxy_in at k v p =
      let made_so : Act Value = make w (keys.Proxy k) v >>= λ r. emit (Used (keys.Proxy k)) >>= λ _. pure (To r) in
      within_bind made (Any made) V (asked at (λ h. receiver h v)) (λ _. take_unit >>= λ _. made_so) (within_test made at (λ h. receiver h v))
      (λ x y. within_bind made (Any made) V take_unit (λ _. made_so) (within_unit made) (λ u z. proxy_made (keys.Proxy k) v p))

  if_in : (b : Bool) (x y : Act (machine.After Conf Value)) → Within made AfterConf x → Within made AfterConf y → Within made AfterConf (if b then x else y)
  if_in true x y p q = p
  if_in false x y p q = q

  plain_in : (here : Here) (zero_value : Value) (i : Instruction) (a : ℕ) (st : List Value) (fr : Frame) → HereIn made here → V zero_value → AllIn made st → AllIn made fr → Within made AfterConf (plain w here zero_value i a st fr)
  plain_in here z (ops.Push c) a st fr h zi s f = on_in (a + 1) (value_of c ∷ st) fr (constant_in made c, s) f
  plain_in here z (ops.Get n) a st fr h zi s f = on_in (a + 1) (local_in (slice_get fr n) ∷ st) fr (get_in made fr n f, s) f
  plain_in here z (ops.Set n) a st fr h zi s f = on_in (a + 1) (below st) (with_local fr n (top st)) (below_in made st s) (set_in made fr n (top st) (top_in made st s) f)
  plain_in here z (ops.Cut n) a st fr h zi s f = on_in (a + 1) st (take n fr) s (take_in made n fr f)
  plain_in here z ops.Me a st fr h zi s f = on_in (a + 1) (here.me ∷ st) fr (h.me, s) f
  plain_in here z (ops.GetVariable n) a st fr h zi s f = push_in (asked here.place (read (class_here here) n here.me)) a st fr (within_asked made V here.place (read (class_here here) n here.me) (λ g heap. read_in made (class_here here) n here.me g heap)) s f
  plain_in here z (ops.SetVariable n) a st fr h zi s f =
      within_bind made (Any made) AfterConf (assign here.place (class_here here) n here.me (top st)) (λ _. on (a + 1) (below st) fr) (assign_in here.place (class_here here) n here.me (top st) (top_in made st s)) (λ x y. on_in (a + 1) (below st) fr (below_in made st s) f)
  plain_in here z (ops.Unary op) a st fr h zi s f = push_in (tried here.place (unary (unary_op op) (top st))) a (below st) fr (within_tried made V here.place (unary (unary_op op) (top st)) (unary_in made (unary_op op) (top st) (top_in made st s))) (below_in made st s) f
  plain_in here z (ops.Binary op) a st fr h zi s f =
      let rest = below_in made st s in
      push_in (tried here.place (binary (binary_op op) (top (below st)) (top st))) a (below (below st)) fr (within_tried made V here.place (binary (binary_op op) (top (below st)) (top st)) (binary_in made (binary_op op) (top (below st)) (top st) (top_in made (below st) rest))) (below_in made (below st) rest) f
  plain_in here z (ops.Jump k) a st fr h zi s f = on_in k st fr s f
  plain_in here z (ops.Unless k) a st fr h zi s f = if_in (is_true (top st)) (on (a + 1) (below st) fr) (on k (below st) fr) (on_in (a + 1) (below st) fr (below_in made st s) f) (on_in k (below st) fr (below_in made st s) f)
  plain_in here z ops.Turn a st fr h zi s f = within_bind made (Any made) AfterConf take_unit (λ _. on (a + 1) st fr) (within_unit made) (λ x y. on_in (a + 1) st fr s f)
  plain_in here z (ops.Class k) a st fr h zi s f = push_in (class_object k) a st fr (class_used k) s f
  plain_in here z ops.Manager a st fr h zi s f = on_in (a + 1) (To Manager ∷ st) fr (tt, s) f
  plain_in here z (ops.Cast k) a st fr h zi s f = push_in (asked here.place (λ g. cast w k g (top st))) a (below st) fr (within_asked made V here.place (λ g. cast w k g (top st)) (λ g heap. cast_in made w closed k g (top st) (top_in made st s))) (below_in made st s) f
  plain_in here z (ops.Isa k) a st fr h zi s f = push_in (asked here.place (λ g. isa w k g (top st))) a (below st) fr (within_asked made V here.place (λ g. isa w k g (top st)) (λ g heap. isa_in made w closed k g (top st))) (below_in made st s) f
  plain_in here z (ops.Proxy k) a st fr h zi s f = push_in (proxy_on w here.place k (top st)) a (below st) fr (proxy_in here.place k (top st) (top_in made st s)) (below_in made st s) f
  plain_in here z (ops.Host code) a st fr h zi s f = on_in (a + 1) (host code (top (below st)) (top st) ∷ below (below st)) fr (tt, below_in made (below st) (below_in made st s)) f
  plain_in here z ops.Print a st fr h zi s f = within_bind made (Any made) AfterConf (print_value (top st)) (λ _. on (a + 1) (below st) fr) (within_emit made (Printed (text_of (top st)))) (λ x y. on_in (a + 1) (below st) fr (below_in made st s) f)
  plain_in here z ops.Drop a st fr h zi s f = on_in (a + 1) (below st) fr (below_in made st s) f
  plain_in here z ops.Return a st fr h zi s f = within_pure made AfterConf (Over z) zi
  plain_in here z ops.ReturnValue a st fr h zi s f = within_pure made AfterConf (Over (top st)) (top_in made st s)
  plain_in here z (ops.New k) a st fr h zi s f = on_in (a + 1) st fr s f
  plain_in here z (ops.OffsetCall r n) a st fr h zi s f = on_in (a + 1) st fr s f
  plain_in here z (ops.Lookup v x n) a st fr h zi s f = on_in (a + 1) st fr s f
  plain_in here z (ops.Dispatch v x n) a st fr h zi s f = on_in (a + 1) st fr s f
  plain_in here z (ops.ParentCall p r n) a st fr h zi s f = on_in (a + 1) st fr s f
  plain_in here z (ops.ParentsCall r n) a st fr h zi s f = on_in (a + 1) st fr s f

  module _ (b : Body) (ks : List Waiting) (i : BodyIn made b) (k : AllWaitingIn made ks) where
    after_in : (x : machine.After Conf Value) → AfterConf x → Kept (pure (after_body b ks x))
    after_in (On c) p = goes (Running (stands_at b c)) ks (record { here = i.here; zero_value = i.zero_value; stack = p.0; locals = p.1 }) k
    after_in (Over v) p = goes (Answering v) ks p k

    past : (st : List Value) → AllIn made st → BodyIn made (goes_past b st)
    past st s = record { here = i.here; zero_value = i.zero_value; stack = s; locals = i.locals }

    abbrev st : List Value
    st = b.conf.stack

    parents_made : AllMade made (w.parents (class_here b.here))
    parents_made = all_parents (class_here b.here) (w.parents (class_here b.here)) (here_class b.here i.here.place) (λ p m. m)

    called_in : (n : ℕ) → BodyIn made (goes_past b (below (drop n st)))
    called_in n = past (below (drop n st)) (below_in made (drop n st) (drop_in made n st i.stack))

    obey_kept : (x : Instruction) → Kept (obey w x b ks)
    obey_kept (ops.New c) =
        let called : List Waiting = ForObject b.here.place c ∷ ForCall (goes_past b st) ∷ ks in
        within_bind made (λ u. made c ≡ true) AfterIn (emit (Used c)) (λ _. passes_offset w (makes b.levels called) b.here.place Offset som_new (To (ClassObject c)) []) (within_used made c)
        (λ u m. offset_kept (makes b.levels called) (made_call b.levels called (tt, (past st i.stack, k))) b.here.place Offset som_new (To (ClassObject c)) [] m tt)
    obey_kept (ops.OffsetCall method n) =
        offset_kept (makes b.levels (ForCall (goes_past b (below (drop n st))) ∷ ks)) (made_call b.levels (ForCall (goes_past b (below (drop n st))) ∷ ks) (called_in n, k)) b.here.place Offset method (top (drop n st)) (arguments n st) (top_in made (drop n st) (drop_in made n st i.stack)) (arguments_in made n st i.stack)
    obey_kept (ops.Lookup wanted name n) =
        named_kept (makes b.levels (ForCall (goes_past b (below (drop n st))) ∷ ks)) (made_call b.levels (ForCall (goes_past b (below (drop n st))) ∷ ks) (called_in n, k)) b.here.place Lookup wanted name (top (drop n st)) (arguments n st) (top_in made (drop n st) (drop_in made n st i.stack)) (arguments_in made n st i.stack)
    obey_kept (ops.Dispatch wanted name n) =
        let receiving : Value = top (drop n st) in
        let called : List Waiting = ForName b.levels b.here.place wanted receiving (arguments n st) ∷ ForCall (goes_past b (below (drop n st))) ∷ ks in
        let r = top_in made (drop n st) (drop_in made n st i.stack) in
        offset_kept (makes b.levels called) (made_call b.levels called ((r, arguments_in made n st i.stack), (called_in n, k))) b.here.place Offset som_dispatch_name receiving (Str name ∷ []) r (tt, tt)
    obey_kept (ops.ParentCall parent method n) =
        let called : List Waiting = ForCall (goes_past b (drop n st)) ∷ ks in
        parent_kept (makes b.levels called) (made_call b.levels called (past (drop n st) (drop_in made n st i.stack), k)) b.here (parent_at (w.parents (class_here b.here)) parent) method (arguments n st) i.here (parent_in (w.parents (class_here b.here)) parent parents_made) (arguments_in made n st i.stack)
    obey_kept (ops.ParentsCall method n) =
        parents_kept b.levels b.here (w.parents (class_here b.here)) method (arguments n st) (ForCall (goes_past b (drop n st)) ∷ ks) i.here parents_made (arguments_in made n st i.stack) (past (drop n st) (drop_in made n st i.stack), k)
    obey_kept x = within_bind made AfterConf AfterIn (plain w b.here b.zero_value x b.conf.at b.conf.stack b.conf.locals) (λ y. pure (after_body b ks y)) (plain_in b.here b.zero_value x b.conf.at b.conf.stack b.conf.locals i.here i.zero_value i.stack i.locals) after_in

    running_kept : (o : Option Instruction) → Kept (obey_at w o b ks)
    running_kept None = goes (Answering b.zero_value) ks i.zero_value k
    running_kept (Some x) = obey_kept x

  -- ---- bodies

  module _ (l : ℕ) (at : Place) (self : Ref) (ks : List Waiting) (r : RefIn made self) (k : AllWaitingIn made ks) where
    free_kept : (x : Ref) → Kept (free_begins w l at self ks x)
    free_kept (Object i) = offset_kept (makes l (ForUninit at self ∷ ks)) (made_call l (ForUninit at self ∷ ks) (tt, k)) at Offset som_uninit (To self) [] r tt
    free_kept (ClassObject c) = within_fault made AfterIn faults.ClassFree at
    free_kept Manager = within_fault made AfterIn faults.ClassFree at

    new_kept : Kept (new_begins w l at self ks)
    new_kept =
        let begun : Ref → Step = λ o. passes_offset w (makes l (ForInit o ∷ ks)) at Offset som_init (To o) [] in
        within_bind made (λ c. made c ≡ true) AfterIn (tried at (stands_for self)) (λ c. make w c Nil >>= begun) (within_tried made (λ c. made c ≡ true) at (stands_for self) (stands_in made self r))
        (λ c m. within_bind made (RefIn made) AfterIn (make w c Nil) begun (within_make made w c Nil m tt)
        (λ o p. offset_kept (makes l (ForInit o ∷ ks)) (made_call l (ForInit o ∷ ks) (p, k)) at Offset som_init (To o) [] p tt))

    new_no_init_kept : Kept (new_no_init_begins w l at self ks)
    new_no_init_kept =
        within_bind made (λ c. made c ≡ true) AfterIn (tried at (stands_for self)) (λ c. make w c Nil >>= λ o. go (Answering (To o)) ks) (within_tried made (λ c. made c ≡ true) at (stands_for self) (stands_in made self r))
        (λ c m. within_bind made (RefIn made) AfterIn (make w c Nil) (λ o. go (Answering (To o)) ks) (within_make made w c Nil m tt) (λ o p. goes (Answering (To o)) ks p k))

    forward_kept : (method : MethodRef) (args : List Value) → AllIn made args → Kept (forward_begins w l at self ks method args)
    forward_kept method args a =
        let begun : Value → Step = λ on. passes_offset w (makes l ks) at Forward method on args in
        within_bind made (Any made) AfterIn (asked at (λ h. live h self)) (λ _. asked at (λ h. Ok (target_of h self)) >>= begun) (within_test made at (λ h. live h self))
        (λ x y. within_bind made V AfterIn (asked at (λ h. Ok (target_of h self))) begun (within_asked made V at (λ h. Ok (target_of h self)) (λ h heap. target_in made h self heap))
        (λ on p. offset_kept (makes l ks) (made_call l ks k) at Forward method on args p a))

    found_kept : (o : Option ClassKey) → Within made V (found_object o)
    found_kept None = within_pure made V Nil tt
    found_kept (Some c) = within_bind made (λ u. made c ≡ true) V (emit (Used c)) (λ _. pure (To (ClassObject c))) (within_used made c) (λ u m. within_pure made V (To (ClassObject c)) m)

    kernel_kept : (b : KernelBody) (args : List Value) → AllIn made args → Kept (kernel_begins w l at self ks b args)
    kernel_kept Idle args a = goes (Answering Nil) ks tt k
    kernel_kept Free args a = free_kept self
    kernel_kept New args a = new_kept
    kernel_kept NewNoInit args a = new_no_init_kept
    kernel_kept FindClass args a = object_answer (found_object (class_found w args)) ks (found_kept (class_found w args)) k
    kernel_kept (Asks q) args a = object_answer (asked at (asks w q self args)) ks (within_asked made V at (asks w q self args) (λ h heap. asks_in made w closed q self args h heap r a)) k

  result_in : (o : Option Sig) → V (result_zero o)
  result_in None = tt
  result_in (Some s) = zero_in made s.result

  module _ (tests : Tests) where
    begins_kept : (i : Invocation) (b : Held) (l : ℕ) (ks : List Waiting) → InvocationIn made i → AllWaitingIn made ks → Kept (begins w tests i b l ks)
    begins_kept i (held.User block) l ks n k =
        goes (Running _) ks (record { here = record { me = n.self; place = n.class }; zero_value = result_in (w.sig i.method); stack = tt; locals = n.args }) k
    begins_kept i (held.Get v) l ks n k =
        object_answer (asked (InBody i.class i.method.name) (read i.class v (To i.self))) ks (within_asked made V (InBody i.class i.method.name) (read i.class v (To i.self)) (λ h heap. read_in made i.class v (To i.self) h heap)) k
    begins_kept i (held.Set v) l ks n k =
        within_bind made (Any made) AfterIn (assign (InBody i.class i.method.name) i.class v (To i.self) (first_argument i.args)) (λ _. go (Answering Nil) ks)
        (assign_in (InBody i.class i.method.name) i.class v (To i.self) (first_argument i.args) (first_in made i.args n.args)) (λ x y. goes (Answering Nil) ks tt k)
    begins_kept i (held.OfKernel name) l ks n k = kernel_kept l (InBody i.class i.method.name) i.self ks n.self k (kernel_body table name) i.args n.args
    begins_kept i held.Forward l ks n k = forward_kept l (InBody i.class i.method.name) i.self ks n.self k i.method i.args n.args
    begins_kept i held.Nothing l ks n k = goes (Answering Nil) ks tt k

    waits_in : (b : Bool) (l : ℕ) (is : List Invocation) (v : Value) (ks : List Waiting) → InvocationsIn made is → V v → AllWaitingIn made ks → AllWaitingIn made (waits b l is v ks)
    waits_in false l is v ks n p k = (record { bodies = n; answer = p }, k)
    waits_in true l [] v ks n p k = k
    waits_in true l (i ∷ is) v ks n p k = (n, k)

    passed_in : (at : Place) (b : Bool) → Within made (Any made {A = Unit {0}}) (if b then pure (tt {0}) else fault faults.Nil at)
    passed_in at true = within_pure made (Any made {A = Unit {0}}) (tt {0}) tt
    passed_in at false = within_fault made (Any made {A = Unit {0}}) faults.Nil at

    passes_in : (at : Place) (holds : Heap → Bool) → Within made (Any made {A = Unit {0}}) (passes at holds)
    passes_in at holds = within_reading made (Any made {A = Unit {0}}) (λ h. if holds h then pure tt else fault faults.Nil at) (λ h heap. passed_in at (holds h))

    invoke_kept : (l : ℕ) (is : List Invocation) (v : Value) (ks : List Waiting) → InvocationsIn made is → V v → AllWaitingIn made ks → Kept (invoke_next w tests l is v ks)
    invoke_kept l [] v ks n p k = goes (Answering v) ks p k
    invoke_kept l (i ∷ is) v ks n p k =
        let begun : Step = begins w tests i i.body l (waits i.answers l is v ks) in
        let event = emit (Called i.method i.way i.class) in
        within_bind made (Any made) AfterIn (passes (place_of i) (tests.body i)) (λ _. take_unit >>= λ _. event >>= λ _. begun) (passes_in (place_of i) (tests.body i))
        (λ x y. within_bind made (Any made) AfterIn take_unit (λ _. event >>= λ _. begun) (within_unit made)
        (λ x2 y2. within_bind made (Any made) AfterIn event (λ _. begun) (within_emit made (Called i.method i.way i.class))
        (λ x3 y3. begins_kept i i.body l (waits i.answers l is v ks) n.0 (waits_in i.answers l is v ks n.1 p k))))

    -- ---- the bodies of a call

    held_in : (way : Manner) (method : MethodRef) (self : Ref) (args : List Value) (answers : Bool) (x : ClassKey) (o : Option Held) (rest : List Invocation) → made x ≡ true → RefIn made self → AllIn made args → InvocationsIn made rest → InvocationsIn made (with_held way method self args answers x o rest)
    held_in way method self args answers x None rest m r a n = n
    held_in way method self args answers x (Some b) rest m r a n = (record { class = m; self = r; args = a }, n)

    hooks_in : (way : Manner) (method : MethodRef) (self : Ref) (args : List Value) (hs : List ClassKey) (rest : List Invocation) → ((c : ClassKey) → Mem c hs → made c ≡ true) → RefIn made self → AllIn made args → InvocationsIn made rest → InvocationsIn made (with_hooks w way method self args hs rest)
    hooks_in way method self args [] rest m r a n = n
    hooks_in way method self args (h ∷ hs) rest m r a n = held_in way method self args false h (w.held h method) (with_hooks w way method self args hs rest) (m h (inl refl)) r a (hooks_in way method self args hs rest (λ c e. m c (inr e)) r a n)

    method_in : (q : Request) (o : Option ClassKey) (rest : List Invocation) → ((y : ClassKey) → o ≡ Some y → made y ≡ true) → RequestIn made q → InvocationsIn made rest → InvocationsIn made (with_method w q o rest)
    method_in q None rest m r n = n
    method_in q (Some y) rest m r n = held_in q.way q.method q.self q.args true y (w.held y q.method) rest (m y refl) r.self r.args n

    hook_made : (x : ClassKey) (p : Option ClassKey) (b : Bool) (c : ClassKey) → made x ≡ true → Mem c (elim p [ None ↦ if b then [] else w.hooks (w.meta x) | Some z ↦ [] ]) → made c ≡ true
    hook_made x None true c m e = absurd e
    hook_made x None false c m e = closed.hooks (w.meta x) c (closed.meta x m) e
    hook_made x (Some p) b c m e = absurd e

    answering : (x : ClassKey) (p : Option ClassKey) (r : MethodRef) (y : ClassKey) → made x ≡ true → ParentIn made p → (elim p [ None ↦ w.impl x r | Some z ↦ w.impl z r ]) ≡ Some y → made y ≡ true
    answering x None r y m p e = closed.impl x y r m e
    answering x (Some z) r y m p e = closed.impl z y r p e

    aux_mem : {A : Type 0} (x : A) (xs ys : List A) → Mem x (reverse_aux xs ys) → Mem x xs ⊎ Mem x ys
    aux_mem x [] ys m = inr m
    aux_mem x (z ∷ xs) ys m = elim (aux_mem x xs (z ∷ ys) m) [
      | inl a ↦ inl (inr a)
      | inr (inl a) ↦ inl (inl a)
      | inr (inr a) ↦ inr a
    ]

    reverse_mem : {A : Type 0} (x : A) (xs : List A) → Mem x (reverse xs) → Mem x xs
    reverse_mem x xs m = elim (aux_mem x xs [] m) [ inl a ↦ a | inr a ↦ absurd a ]

    bodies_in : (x : ClassKey) (q : Request) → made x ≡ true → RequestIn made q → InvocationsIn made (call_bodies w x q)
    bodies_in x q m r =
        let seen : List Value = To q.self ∷ Str q.method.name ∷ [] in
        let hooks : List ClassKey = hooks_of w x q in
        let hook : (c : ClassKey) → Mem c hooks → made c ≡ true = λ c e. hook_made x q.parent (is_kernel q.method.class) c m e in
        let after : List Invocation = with_hooks w After after_method (ClassObject x) seen (reverse hooks) [] in
        hooks_in Before before_method (ClassObject x) seen hooks (with_method w q (body_class w x q) after) hook m (r.self, (tt, tt))
        (method_in q (body_class w x q) after (λ y e. answering x q.parent q.method y m r.parent e) r
        (hooks_in After after_method (ClassObject x) seen (reverse hooks) [] (λ c e. hook c (reverse_mem c hooks e)) m (r.self, (tt, tt)) tt))

    call_kept : (l : ℕ) (q : Request) (ks : List Waiting) → RequestIn made q → AllWaitingIn made ks → Kept (call_at w tests l q ks)
    call_kept zero q ks r k = within_fault made AfterIn faults.Depth q.from
    call_kept (suc l) q ks r k =
        within_reading made AfterIn (λ h. go (Invoking (record { levels = l; bodies = call_bodies w (class_of w h q.self) q; answer = Nil })) ks)
        (λ h heap. goes (Invoking (record { levels = l; bodies = call_bodies w (class_of w h q.self) q; answer = Nil })) ks (record { bodies = bodies_in (class_of w h q.self) q (class_in made w closed h q.self heap r.self) r; answer = tt }) k)

    -- ---- each step

    pub next_kept : (now : Now) (ks : List Waiting) → NowIn made now → AllWaitingIn made ks → Kept (next w tests now ks)
    next_kept (Running b) ks n k = running_kept b ks n k (slice_get b.code b.conf.at)
    next_kept (Calling l q) ks n k = within_bind made (Any made) AfterIn (passes q.from (tests.call q)) (λ _. call_at w tests l q ks) (passes_in q.from (tests.call q)) (λ x y. call_kept l q ks n k)
    next_kept (Invoking left) ks n k = invoke_kept left.levels left.bodies left.answer ks n.bodies n.answer k
    next_kept (Answering v) [] n k = within_pure made AfterIn (Over (tt {0})) tt
    next_kept (Answering v) (c ∷ ks) n k = resume_kept c v ks k.0 n k.1
