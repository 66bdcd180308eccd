-- Acts of the machine of frames that come to the answer of an act of the meaning.
use Rattle.std.proofs.Common.{ℕ, List, [], ◌∷◌, Some, None, Bool, true, false, if◌then◌else◌, ◌≡◌, refl}
use Rattle.som_model.specs.declared.key.ClassKey.{ClassKey}
use Rattle.som_model.specs.declared.key.MethodRef.{MethodRef}
use Rattle.som_model.specs.declared.key.ValueType.{ValueType}
use Rattle.som_semantics.specs.World.{World}
use Rattle.som_semantics.specs.State.{Heap, Value, Long, Boolean, Str, Nil, To, Ref, State, Place, Manner, Parent, receiver, class_of}
use Rattle.som_semantics.specs.Runs.{Faulted, Ran, Goes, Ends, follow, Act}
use Rattle.som_semantics.specs.Acts.{◌>>=◌, pure, tried, asked, fault}
use Rattle.som_model.specs.declared.program.Fault.TheVariants as faults
use Rattle.som_semantics.specs.Values.{sig_fits}
use Rattle.som_semantics.specs.Calls.{Calls, Request, Here, found, offset_call, named_call, parent_call, parents_calls}
use Rattle.som_code.specs.Machine.{After, On}
use Rattle.som_machine_laws.specs.Frames.{Now, Calling, Answering, Waiting, ForParent, Frames}
use Rattle.som_machine_laws.specs.Tested.{Tests, passes, tested}
use Rattle.som_machine_laws.specs.Passed.{passes_offset, passes_named, passes_parent, own_self}
use Rattle.som_machine_laws.specs.Step.{Step, frames, go, makes, next_parent, resume, step}
use Rattle.som_machine_laws.proofs.Comes.{comes_same, comes_trans, comes_step}
use Rattle.som_machine_laws.specs.Comes.{Comes}

module _ (w : World) (tests : Tests) where
  abbrev pub Come : Ran (After Frames (Unit {0})) → Ran (After Frames (Unit {0})) → Type 0
  Come = Comes (step w tests)

  -- a task that goes on so
  abbrev pub here : Now → List Waiting → State → Ran (After Frames (Unit {0}))
  here now ks s = Goes (On (frames now ks)) s

  -- the value of a run is answered to these
  abbrev pub answers : List Waiting → Ran Value → Ran (After Frames (Unit {0}))
  answers ks r = follow r (λ v t. here (Answering v) ks t)

  -- what the machine does so comes to the answer of this act
  pub record Answered (x : Step) (ks : List Waiting) (m : Act Value) : Type 0 where
    pub by : (s : State) → Come (x.does s) (answers ks (m.does s))

  pub answered_pure : (v : Value) (ks : List Waiting) → Answered (go (Answering v) ks) ks (pure v)
  answered_pure v ks = record { by = λ s. comes_same (step w tests) (here (Answering v) ks s) }

  bind_run : {A : Type 0} (r : Ran A) (k : A → Step) (f : A → Act Value) (ks : List Waiting) → ((a : A) → Answered (k a) ks (f a)) → Come (follow r (λ a. (k a).does)) (answers ks (follow r (λ a. (f a).does)))
  bind_run (Goes a s) k f ks h = (h a).by s
  bind_run (Ends c s) k f ks h = comes_same (step w tests) (Ends c s)

  pub answered_bind : {A : Type 0} (m : Act A) (k : A → Step) (f : A → Act Value) (ks : List Waiting) → ((a : A) → Answered (k a) ks (f a)) → Answered (m >>= k) ks (m >>= f)
  answered_bind m k f ks h = record { by = λ s. bind_run (m.does s) k f ks h }

  -- after a test that holds
  passes_run : (at : Place) (b : Bool) (x : Step) (ks : List Waiting) (m : Act Value) (s : State) → (b ≡ true → Answered x ks m)
      → Come (follow ((if b then pure (tt {0}) else fault faults.Nil at).does s) (λ _. x.does)) (answers ks (follow ((if b then pure (tt {0}) else fault faults.Nil at).does s) (λ _. m.does)))
  passes_run at true x ks m s h = (h refl).by s
  passes_run at false x ks m s h = comes_same (step w tests) (Ends (Faulted faults.Nil at) s)

  pub answered_passes : (at : Place) (holds : Heap → Bool) (x : Step) (ks : List Waiting) (m : Act Value) → ((h : Heap) → holds h ≡ true → Answered x ks m) → Answered (passes at holds >>= λ _. x) ks (passes at holds >>= λ _. m)
  answered_passes at holds x ks m h = record { by = λ s. passes_run at (holds s.heap) x ks m s (h s.heap) }

  -- the value of an act is answered at once
  pub answered_once : (m : Act Value) (ks : List Waiting) → Answered (m >>= λ v. go (Answering v) ks) ks m
  answered_once m ks = record { by = λ s. comes_same (step w tests) (answers ks (m.does s)) }

  resume_run : (r : Ran Value) (k : Waiting) (ks : List Waiting) (g : Value → Act Value) → ((v : Value) → Answered (resume w k v ks) ks (g v)) → Come (answers (k ∷ ks) r) (answers ks (follow r (λ v. (g v).does)))
  resume_run (Goes v s) k ks g h = comes_step (step w tests) (frames (Answering v) (k ∷ ks)) s (answers ks ((g v).does s)) ((h v).by s)
  resume_run (Ends c s) k ks g h = comes_same (step w tests) (Ends c s)

  -- what waits for the value goes on with it
  pub answered_then : (x : Step) (k : Waiting) (ks : List Waiting) (m : Act Value) (g : Value → Act Value) → Answered x (k ∷ ks) m → ((v : Value) → Answered (resume w k v ks) ks (g v)) → Answered x ks (m >>= g)
  answered_then x k ks m g h rest = record { by = λ s. comes_trans (step w tests) (x.does s) (answers (k ∷ ks) (m.does s)) (answers ks (follow (m.does s) (λ v. (g v).does))) (h.by s) (resume_run (m.does s) k ks g rest) }

  -- calls at so many levels come to what they mean
  abbrev pub Matched : ℕ → Type 0
  Matched l = (q : Request) (ks : List Waiting) → Answered (go (Calling l q) ks) ks (tested w tests l q)

  module _ (l : ℕ) (matched : Matched l) where
    abbrev call : Calls
    call = tested w tests l

    pub offset_answered : (at : Place) (way : Manner) (method : MethodRef) (on : Value) (args : List Value) (ks : List Waiting)
        → Answered (passes_offset w (makes l ks) at way method on args) ks (offset_call w call at way method on args)
    offset_answered at way method on args ks =
        let request : Ref → Request = λ self. record { from = at; way = way; self = self; parent = None; method = w.owner method; args = args } in
        answered_bind (asked at (λ h. receiver h on)) (λ self. makes l ks (request self)) (λ self. call (request self)) ks (λ self. matched (request self) ks)

    module _ (at : Place) (way : Manner) (wanted : ValueType) (name : List ℕ) (args : List Value) where
      abbrev asks : {A : Type 0} → (Request → Act A) → Ref → MethodRef → Act A
      asks after self method = asked at (λ h. sig_fits w h (w.sig method) wanted args) >>= λ _. after (record { from = at; way = way; self = self; parent = None; method = method; args = args })

      abbrev finds : {A : Type 0} → (Request → Act A) → Ref → Act A
      finds after self = asked at (λ h. found (w.byname (class_of w h self) name)) >>= asks after self

      pub named_answered : (on : Value) (ks : List Waiting) → Answered (passes_named w (makes l ks) at way wanted name on args) ks (named_call w call at way wanted name on args)
      named_answered on ks =
          answered_bind (asked at (λ h. receiver h on)) (finds (makes l ks)) (finds call) ks
          (λ self. answered_bind (asked at (λ h. found (w.byname (class_of w h self) name))) (asks (makes l ks) self) (asks call self) ks
          (λ method. answered_bind (asked at (λ h. sig_fits w h (w.sig method) wanted args)) (λ _. makes l ks (record { from = at; way = way; self = self; parent = None; method = method; args = args })) (λ _. call (record { from = at; way = way; self = self; parent = None; method = method; args = args })) ks
          (λ _. matched (record { from = at; way = way; self = self; parent = None; method = method; args = args }) ks)))

    module _ (from : Here) (method : MethodRef) (args : List Value) where
      abbrev request : ClassKey → Ref → Request
      request p self = record { from = from.place; way = Parent; self = self; parent = Some p; method = w.owner method; args = args }

      parent_by : (me : Value) (p : ClassKey) (ks : List Waiting)
          → Answered (tried from.place (own_self me) >>= λ self. makes l ks (request p self)) ks (parent_call w call (record { me = me; place = from.place }) p method args)
      parent_by (To r) p ks = record { by = λ s. (matched (request p r) ks).by s }
      parent_by (Long z) p ks = record { by = λ s. comes_same (step w tests) (Ends (Faulted faults.Nil from.place) s) }
      parent_by (Boolean b) p ks = record { by = λ s. comes_same (step w tests) (Ends (Faulted faults.Nil from.place) s) }
      parent_by (Str t) p ks = record { by = λ s. comes_same (step w tests) (Ends (Faulted faults.Nil from.place) s) }
      parent_by Nil p ks = record { by = λ s. comes_same (step w tests) (Ends (Faulted faults.Nil from.place) s) }

      pub parent_answered : (p : ClassKey) (ks : List Waiting) → Answered (passes_parent w (makes l ks) from p method args) ks (parent_call w call from p method args)
      parent_answered p ks = record { by = λ s. (parent_by from.me p ks).by s }

      -- the parents that are left
      pub parents_answered : (ps : List ClassKey) (ks : List Waiting) → Answered (next_parent w l from ps method args ks) ks (parents_calls w call from ps method args)
      parents_answered [] ks = answered_pure Nil ks
      parents_answered (p ∷ ps) ks = descends (w.is_a p (w.owner method).class) (parents_answered ps ks) where
        descends : (b : Bool) → Answered (next_parent w l from ps method args ks) ks (parents_calls w call from ps method args)
            → Answered (if b then passes_parent w (makes l (ForParent l from ps method args ∷ ks)) from p method args else next_parent w l from ps method args ks) ks
            (if b then (parent_call w call from p method args >>= λ _. parents_calls w call from ps method args) else parents_calls w call from ps method args)
        descends true rest = answered_then (passes_parent w (makes l (ForParent l from ps method args ∷ ks)) from p method args) (ForParent l from ps method args) ks (parent_call w call from p method args) (λ _. parents_calls w call from ps method args)
            (parent_answered p (ForParent l from ps method args ∷ ks)) (λ _. rest)
        descends false rest = rest
