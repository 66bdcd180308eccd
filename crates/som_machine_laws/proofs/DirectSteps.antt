-- A step of a task of which nothing searches comes to a task of which nothing does.
use Rattle.std.proofs.Common.{◌≡◌, ℕ, zero, suc, inl, inr, Bool, true, false, if◌then◌else◌, List, [], ◌∷◌, length, drop, reverse, slice_get, Option, Some, None, Ok, refl, ap, ◌∙◌, subst, true≢false}
use Rattle.som_model.specs.declared.key.ClassKey.{ClassKey}
use Rattle.som_model.specs.declared.key.MethodRef.{MethodRef}
use Rattle.som_model.specs.declared.program.Fault.{Fault}
use Rattle.som_model.specs.declared.program.Fault.TheVariants as faults
use Rattle.som_model.specs.Lists.{Mem}
use Rattle.som_model.specs.Kernel.{som_new, som_init, som_uninit, before_method, after_method}
use Rattle.som_model.specs.Implementation.{Held}
use Rattle.som_model.specs.Implementation as held
use Rattle.som_semantics.specs.World.{World}
use Rattle.som_semantics.specs.State.{Value, Nil, Str, To, Ref, Object, ClassObject, Manager, State, Place, InBody, Manner, Offset, Forward, Parent, Before, After, Called, Used, live, receiver, class_of, target_of, freed}
use Rattle.som_semantics.specs.Runs.{Ran, Goes, Ends, follow, Act}
use Rattle.som_semantics.specs.Acts.{◌>>=◌, pure, fault, tried, asked, emit, take_unit, become, freed_stays, make}
use Rattle.som_semantics.specs.Values.{cast}
use Rattle.som_semantics.specs.Calls.{Request, Here, class_here, parent_at}
use Rattle.som_semantics.specs.Expressions.{read}
use Rattle.som_semantics.specs.Statements.{assign}
use Rattle.som_semantics.specs.Invoked.{first_argument, stands_for, class_found, found_object, asks, KernelBody, Idle, Free, New, NewNoInit, FindClass, Asks, kernel_body, table}
use Rattle.som_semantics.specs.Means.{body_class, hooks_of}
use Rattle.som_code.specs.declared.instruction.Instruction.{Instruction}
use Rattle.som_code.specs.declared.instruction.Instruction.TheVariants as ops
use Rattle.som_code.specs.Machine as machine
use Rattle.som_code.specs.Machine.{On, Over}
use Rattle.som_code.specs.Effect.{Conf, top, below, arguments, plain}
use Rattle.som_machine_laws.specs.Frames.{Body, Invocation, Now, Running, Calling, Invoking, Answering, Waiting, ForCall, ForHook, ForMethod, ForObject, ForInit, ForUninit, ForName, ForParent, Frames}
use Rattle.som_machine_laws.specs.CallBodies.{with_held, with_hooks, with_method, call_bodies}
use Rattle.som_machine_laws.specs.Tested.{Tests, passes, place_of}
use Rattle.som_machine_laws.specs.Passed.{passes_offset, passes_parent, own_self}
use Rattle.som_machine_laws.specs.Step.{Step, frames, go, makes, waits, free_begins, new_begins, new_no_init_begins, forward_begins, kernel_begins, stands_at, goes_past, answered, after_body, next_parent, resume, obey, obey_at, begins, invoke_next, call_at, next}
use Rattle.som_machine_laws.specs.Naming.{kernel_calls}
use Rattle.som_machine_laws.specs.Searching.{IsDirectBody, IsDirectCode, IsDirectMethod, IsDirectWorld, is_asking, searches}
use Rattle.som_machine_laws.specs.Direct.{AreDirect, AreDirectWaiting, IsDirect, IsDirectInvocation, IsDirectNow, IsDirectWaiting}

-- ---- where steps go on

module _ (P : Frames → Type 0) where
  -- it goes on to such frames alone
  pub record Leads (m : Step) : Type 0 where
    pub by : (s : State) (fs : Frames) (t : State) → m.does s ≡ Goes (On fs) t → P fs

  on_is : (x y : Frames) (s t : State) → ◌≡◌ {A = Ran (machine.After Frames (Unit {0}))} (Goes (On x) s) (Goes (On y) t) → x ≡ y
  on_is x y s t e = cc

  pub leads_on : (now : Now) (ks : List Waiting) → P (frames now ks) → Leads (go now ks)
  leads_on now ks p = record { by = λ s fs t e. subst P (on_is (frames now ks) fs s t e) p }

  pub leads_over : Leads (pure (Over (tt {0})))
  leads_over = record { by = λ s fs t e. absurd cc }

  pub leads_fault : (f : Fault) (at : Place) → Leads (fault f at)
  leads_fault f at = record { by = λ s fs t e. absurd cc }

  follow_leads : {A : Type 0} (r : Ran A) (k : A → Step) → ((a : A) → Leads (k a)) → (fs : Frames) (t : State) → follow r (λ a. (k a).does) ≡ Goes (On fs) t → P fs
  follow_leads (Goes a u) k h fs t e = (h a).by u fs t e
  follow_leads (Ends c u) k h fs t e = absurd cc

  -- whatever is done before
  pub leads_bind : {A : Type 0} (m : Act A) (k : A → Step) → ((a : A) → Leads (k a)) → Leads (m >>= k)
  leads_bind m k h = record { by = λ s fs t e. follow_leads (m.does s) k h fs t e }

module _ (w : World) (direct : IsDirectWorld w) where
  abbrev Kept : Step → Type 0
  Kept m = Leads (IsDirect w) m

  goes : (now : Now) (ks : List Waiting) → IsDirectNow w now → AreDirectWaiting w ks → Kept (go now ks)
  goes now ks n k = leads_on (IsDirect w) now ks (record { now = n; waiting = k })

  -- the owner of a method, where it doesn't ask
  owner_direct : (r : MethodRef) → is_asking (w.owner r) ≡ false → IsDirectMethod w (w.owner r)
  owner_direct r e = record { own = direct.owners r; other = e }

  -- and so the owner of one that owns itself
  own_other : (r : MethodRef) → IsDirectMethod w r → is_asking (w.owner r) ≡ false
  own_other r d = ap is_asking d.own ∙ d.other

  -- ---- calls that are tested

  module _ (l : ℕ) (ks : List Waiting) (k : AreDirectWaiting w ks) where
    offset_kept : (at : Place) (way : Manner) (method : MethodRef) (on : Value) (args : List Value) → is_asking (w.owner method) ≡ false → Kept (passes_offset w (makes l ks) at way method on args)
    offset_kept at way method on args e =
        let request : Ref → Request = λ self. record { from = at; way = way; self = self; parent = None; method = w.owner method; args = args } in
        leads_bind (IsDirect w) (asked at (λ h. receiver h on)) (λ self. makes l ks (request self)) (λ self. goes (Calling l (request self)) ks (owner_direct method e) k)

    parent_kept : (from : Here) (p : ClassKey) (method : MethodRef) (args : List Value) → is_asking (w.owner method) ≡ false → Kept (passes_parent w (makes l ks) from p method args)
    parent_kept from p method args e =
        let request : Ref → Request = λ self. record { from = from.place; way = Parent; self = self; parent = Some p; method = w.owner method; args = args } in
        leads_bind (IsDirect w) (tried from.place (own_self from.me)) (λ self. makes l ks (request self)) (λ self. goes (Calling l (request self)) ks (owner_direct method e) k)

  parents_kept : (l : ℕ) (from : Here) (ps : List ClassKey) (method : MethodRef) (args : List Value) (ks : List Waiting) → is_asking (w.owner method) ≡ false → AreDirectWaiting w ks → Kept (next_parent w l from ps method args ks)
  parents_kept l from [] method args ks e k = goes (Answering Nil) ks tt k
  parents_kept l from (p ∷ ps) method args ks e k = descends (w.is_a p (w.owner method).class) (parents_kept l from ps method args ks e k) where
    descends : (b : Bool) → Kept (next_parent w l from ps method args ks) → Kept (if b then passes_parent w (makes l (ForParent l from ps method args ∷ ks)) from p method args else next_parent w l from ps method args ks)
    descends true rest = parent_kept l (ForParent l from ps method args ∷ ks) (e, k) from p method args e
    descends false rest = rest

  -- ---- what waits

  value_kept : (m : Act Value) (ks : List Waiting) → AreDirectWaiting w ks → Kept (m >>= λ v. go (Answering v) ks)
  value_kept m ks k = leads_bind (IsDirect w) m (λ v. go (Answering v) ks) (λ v. goes (Answering v) ks tt k)

  resume_kept : (c : Waiting) (v : Value) (ks : List Waiting) → IsDirectWaiting w c → AreDirectWaiting w ks → Kept (resume w c v ks)
  resume_kept (ForCall b) v ks i k = goes (Running (answered b v)) ks i k
  resume_kept (ForHook left) v ks i k = goes (Invoking left) ks i k
  resume_kept (ForMethod l is) v ks i k = goes (Invoking (record { levels = l; bodies = is; answer = v })) ks i k
  resume_kept (ForObject at c) v ks i k = value_kept (asked at (λ h. cast w c h v)) ks k
  resume_kept (ForInit r) v ks i k = goes (Answering (To r)) ks tt k
  resume_kept (ForUninit at r) v ks i k =
      leads_bind (IsDirect w) (asked at (λ h. live h r)) (λ _. become (freed r) (freed_stays r) >>= λ _. go (Answering Nil) ks)
      (λ _. leads_bind (IsDirect w) (become (freed r) (freed_stays r)) (λ _. go (Answering Nil) ks) (λ _. goes (Answering Nil) ks tt k))
  resume_kept (ForName l at wanted on args) v ks i k = absurd i
  resume_kept (ForParent l from ps method args) v ks i k = parents_kept l from ps method args ks i k

  -- ---- instructions

  called_other : (r : MethodRef) → Mem r kernel_calls → is_asking (w.owner r) ≡ false
  called_other r m = own_other r (direct.calls r m)

  new_other : is_asking (w.owner som_new) ≡ false
  new_other = called_other som_new (inl refl)

  module _ (b : Body) (ks : List Waiting) (code : IsDirectCode w b.code) (k : AreDirectWaiting w ks) where
    after_kept : (x : machine.After Conf Value) → Kept (pure (after_body b ks x))
    after_kept (On c) = goes (Running (stands_at b c)) ks code k
    after_kept (Over v) = goes (Answering v) ks tt k

    abbrev st : List Value
    st = b.conf.stack

    obey_kept : (x : Instruction) → searches w.owner x ≡ false → Kept (obey w x b ks)
    obey_kept (ops.New c) e =
        let called : List Waiting = ForObject b.here.place c ∷ ForCall (goes_past b st) ∷ ks in
        leads_bind (IsDirect w) (emit (Used c)) (λ _. passes_offset w (makes b.levels called) b.here.place Offset som_new (To (ClassObject c)) [])
        (λ _. offset_kept b.levels called (tt, (code, k)) b.here.place Offset som_new (To (ClassObject c)) [] new_other)
    obey_kept (ops.OffsetCall method n) e = offset_kept b.levels (ForCall (goes_past b (below (drop n st))) ∷ ks) (code, k) b.here.place Offset method (top (drop n st)) (arguments n st) e
    obey_kept (ops.Lookup wanted name n) e = absurd (true≢false e)
    obey_kept (ops.Dispatch wanted name n) e = absurd (true≢false e)
    obey_kept (ops.ParentCall parent method n) e = parent_kept b.levels (ForCall (goes_past b (drop n st)) ∷ ks) (code, k) b.here (parent_at (w.parents (class_here b.here)) parent) method (arguments n st) e
    obey_kept (ops.ParentsCall method n) e = parents_kept b.levels b.here (w.parents (class_here b.here)) method (arguments n st) (ForCall (goes_past b (drop n st)) ∷ ks) e (code, k)
    obey_kept x e = leads_bind (IsDirect w) (plain w b.here b.zero_value x b.conf.at b.conf.stack b.conf.locals) (λ y. pure (after_body b ks y)) after_kept

    running_kept : (o : Option Instruction) → slice_get b.code b.conf.at ≡ o → Kept (obey_at w o b ks)
    running_kept None e = goes (Answering b.zero_value) ks tt k
    running_kept (Some x) e = obey_kept x (code b.conf.at x e)

  -- ---- bodies

  module _ (l : ℕ) (at : Place) (self : Ref) (ks : List Waiting) (k : AreDirectWaiting w ks) where
    free_kept : (x : Ref) → Kept (free_begins w l at self ks x)
    free_kept (Object i) = offset_kept l (ForUninit at self ∷ ks) (tt, k) at Offset som_uninit (To self) [] (called_other som_uninit (inr (inr (inl refl))))
    free_kept (ClassObject c) = leads_fault (IsDirect w) faults.ClassFree at
    free_kept Manager = leads_fault (IsDirect w) faults.ClassFree at

    new_kept : Kept (new_begins w l at self ks)
    new_kept =
        let begun : Ref → Step = λ o. passes_offset w (makes l (ForInit o ∷ ks)) at Offset som_init (To o) [] in
        leads_bind (IsDirect w) (tried at (stands_for self)) (λ c. make w c Nil >>= begun)
        (λ c. leads_bind (IsDirect w) (make w c Nil) begun (λ o. offset_kept l (ForInit o ∷ ks) (tt, k) at Offset som_init (To o) [] (called_other som_init (inr (inl refl)))))

    new_no_init_kept : Kept (new_no_init_begins w l at self ks)
    new_no_init_kept =
        leads_bind (IsDirect w) (tried at (stands_for self)) (λ c. make w c Nil >>= λ o. go (Answering (To o)) ks)
        (λ c. leads_bind (IsDirect w) (make w c Nil) (λ o. go (Answering (To o)) ks) (λ o. goes (Answering (To o)) ks tt k))

    forward_kept : (method : MethodRef) (args : List Value) → IsDirectMethod w method → Kept (forward_begins w l at self ks method args)
    forward_kept method args d =
        let begun : Value → Step = λ on. passes_offset w (makes l ks) at Forward method on args in
        leads_bind (IsDirect w) (asked at (λ h. live h self)) (λ _. asked at (λ h. Ok (target_of h self)) >>= begun)
        (λ _. leads_bind (IsDirect w) (asked at (λ h. Ok (target_of h self))) begun (λ on. offset_kept l ks k at Forward method on args (own_other method d)))

    kernel_kept : (b : KernelBody) (args : List Value) → Kept (kernel_begins w l at self ks b args)
    kernel_kept Idle args = goes (Answering Nil) ks tt k
    kernel_kept Free args = free_kept self
    kernel_kept New args = new_kept
    kernel_kept NewNoInit args = new_no_init_kept
    kernel_kept FindClass args = value_kept (found_object (class_found w args)) ks k
    kernel_kept (Asks q) args = value_kept (asked at (asks w q self args)) ks k

  module _ (tests : Tests) where
    begins_kept : (i : Invocation) (l : ℕ) (ks : List Waiting) → IsDirectInvocation w i → AreDirectWaiting w ks → Kept (begins w tests i i.body l ks)
    begins_kept i l ks d k = by i.body d.body
      where
        by : (b : Held) → IsDirectBody w b → Kept (begins w tests i b l ks)
        by (held.User block) e = goes (Running _) ks (e (length i.args)) k
        by (held.Get v) e = value_kept (asked (InBody i.class i.method.name) (read i.class v (To i.self))) ks k
        by (held.Set v) e = leads_bind (IsDirect w) (assign (InBody i.class i.method.name) i.class v (To i.self) (first_argument i.args)) (λ _. go (Answering Nil) ks) (λ _. goes (Answering Nil) ks tt k)
        by (held.OfKernel name) e = kernel_kept l (InBody i.class i.method.name) i.self ks k (kernel_body table name) i.args
        by held.Forward e = forward_kept l (InBody i.class i.method.name) i.self ks k i.method i.args d.method
        by held.Nothing e = goes (Answering Nil) ks tt k

    waits_direct : (b : Bool) (l : ℕ) (is : List Invocation) (v : Value) (ks : List Waiting) → AreDirect w is → AreDirectWaiting w ks → AreDirectWaiting w (waits b l is v ks)
    waits_direct false l is v ks d k = (d, k)
    waits_direct true l [] v ks d k = k
    waits_direct true l (i ∷ is) v ks d k = (d, k)

    invoke_kept : (l : ℕ) (is : List Invocation) (v : Value) (ks : List Waiting) → AreDirect w is → AreDirectWaiting w ks → Kept (invoke_next w tests l is v ks)
    invoke_kept l [] v ks d k = goes (Answering v) ks tt k
    invoke_kept l (i ∷ is) v ks d k =
        let begun : Step = begins w tests i i.body l (waits i.answers l is v ks) in
        let event = emit (Called i.method i.way i.class) in
        leads_bind (IsDirect w) (passes (place_of i) (tests.body i)) (λ _. take_unit >>= λ _. event >>= λ _. begun)
        (λ _. leads_bind (IsDirect w) take_unit (λ _. event >>= λ _. begun)
        (λ _. leads_bind (IsDirect w) event (λ _. begun) (λ _. begins_kept i l (waits i.answers l is v ks) d.0 (waits_direct i.answers l is v ks d.1 k))))

    -- ---- the bodies of a call

    module _ (way : Manner) (r : MethodRef) (self : Ref) (args : List Value) (d : IsDirectMethod w r) where
      held_direct : (answers : Bool) (x : ClassKey) (o : Option Held) (rest : List Invocation) → w.held x r ≡ o → AreDirect w rest → AreDirect w (with_held way r self args answers x o rest)
      held_direct answers x None rest e n = n
      held_direct answers x (Some b) rest e n = (record { method = d; body = direct.bodies x r b e d.other }, n)

      hooks_direct : (hs : List ClassKey) (rest : List Invocation) → AreDirect w rest → AreDirect w (with_hooks w way r self args hs rest)
      hooks_direct [] rest n = n
      hooks_direct (h ∷ hs) rest n = held_direct false h (w.held h r) (with_hooks w way r self args hs rest) refl (hooks_direct hs rest n)

    method_direct : (q : Request) (o : Option ClassKey) (rest : List Invocation) → IsDirectMethod w q.method → AreDirect w rest → AreDirect w (with_method w q o rest)
    method_direct q None rest d n = n
    method_direct q (Some y) rest d n = held_direct q.way q.method q.self q.args d true y (w.held y q.method) rest refl n

    bodies_direct : (x : ClassKey) (q : Request) → IsDirectMethod w q.method → AreDirect w (call_bodies w x q)
    bodies_direct x q d =
        let seen : List Value = To q.self ∷ Str q.method.name ∷ [] in
        let hooks : List ClassKey = hooks_of w x q in
        let after : List Invocation = with_hooks w After after_method (ClassObject x) seen (reverse hooks) [] in
        hooks_direct Before before_method (ClassObject x) seen (direct.calls before_method (inr (inr (inr (inr (inr (inl refl))))))) hooks (with_method w q (body_class w x q) after)
        (method_direct q (body_class w x q) after d
        (hooks_direct After after_method (ClassObject x) seen (direct.calls after_method (inr (inr (inr (inr (inr (inr (inl refl)))))))) (reverse hooks) [] tt))

    call_kept : (l : ℕ) (q : Request) (ks : List Waiting) → IsDirectMethod w q.method → AreDirectWaiting w ks → Kept (call_at w tests l q ks)
    call_kept zero q ks d k = leads_fault (IsDirect w) faults.Depth q.from
    call_kept (suc l) q ks d k = record {
      by = λ s fs t e. (goes (Invoking (record { levels = l; bodies = call_bodies w (class_of w s.heap q.self) q; answer = Nil })) ks (bodies_direct (class_of w s.heap q.self) q d) k).by s fs t e;
    }

    -- ---- each step

    pub next_kept : (now : Now) (ks : List Waiting) → IsDirectNow w now → AreDirectWaiting w ks → Kept (next w tests now ks)
    next_kept (Running b) ks n k = running_kept b ks n k (slice_get b.code b.conf.at) refl
    next_kept (Calling l q) ks n k = leads_bind (IsDirect w) (passes q.from (tests.call q)) (λ _. call_at w tests l q ks) (λ _. call_kept l q ks n k)
    next_kept (Invoking left) ks n k = invoke_kept left.levels left.bodies left.answer ks n k
    next_kept (Answering v) [] n k = leads_over (IsDirect w)
    next_kept (Answering v) (c ∷ ks) n k = resume_kept c v ks k.0 k.1
