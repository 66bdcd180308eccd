-- A call on frames comes to what it means, and so does main.
use Rattle.std.proofs.Common.{◌≡◌, ℕ, zero, suc, List, [], ◌∷◌, Bool, true, false, if◌then◌else◌, refl, sym, subst}
use Rattle.som_model.specs.declared.syntax.Block.{Block}
use Rattle.som_model.specs.declared.program.Fault.TheVariants as faults
use Rattle.som_semantics.specs.World.{World}
use Rattle.som_semantics.specs.State.{Value, Nil, State, InMain, Called, class_of}
use Rattle.som_semantics.specs.Runs.{Faulted, Ran, Goes, Ends, follow, Act}
use Rattle.som_semantics.specs.Acts.{◌>>=◌, ◌>>◌, fault, reading, take_unit, emit}
use Rattle.som_semantics.specs.Calls.{Calls, Request}
use Rattle.som_semantics.specs.Statements.{Flow, run_block}
use Rattle.som_semantics.specs.Invoked.{answer_of, body_does}
use Rattle.som_code.specs.Machine.{Over, over, ComesTo}
use Rattle.som_code.specs.Same.{body_act}
use Rattle.som_machine_laws.specs.Frames.{Invocation, Left, Calling, Invoking, Answering, Waiting, ForHook, ForMethod}
use Rattle.som_machine_laws.specs.CallBodies.{call_bodies}
use Rattle.som_machine_laws.specs.Tested.{Tests, passes, place_of, invoked, all_invoked, tested, tested_main}
use Rattle.som_machine_laws.specs.Step.{Step, frames, go, waits, begins, invoke_next, call_at, step, main_frames}
use Rattle.som_machine_laws.proofs.Comes.{comes_same, comes_trans, comes_step, comes_to}
use Rattle.som_machine_laws.proofs.Answered.{Come, here, answers, Answered, answered_pure, answered_bind, answered_passes, answered_then, Matched}
use Rattle.som_machine_laws.proofs.Bodies.{begins_answered}
use Rattle.som_machine_laws.proofs.Coded.{blocks_answered, body_comes}

module _ (w : World) (tests : Tests) where
  abbrev left : ℕ → List Invocation → Value → Left
  left l is v = record { levels = l; bodies = is; answer = v }

  unchanged : (r : Ran Value) → follow r (λ v t. Goes v t) ≡ r
  unchanged (Goes v t) = refl
  unchanged (Ends c t) = refl

  module _ (l : ℕ) (matched : Matched w tests l) where
    abbrev call : Calls
    call = tested w tests l

    -- ---- one body

    -- the first of the bodies that are left, and what it does
    abbrev first : Invocation → List Waiting → Step
    first i ks = passes (place_of i) (tests.body i) >>= λ _. take_unit >>= λ _. emit (Called i.method i.way i.class) >>= λ _. begins w tests i i.body l ks

    abbrev does : Invocation → Act Value
    does i = body_does w call i.body i.class i.method i.self i.args

    first_answered : (i : Invocation) (ks : List Waiting) → Answered w tests (first i ks) ks (invoked w tests call i)
    first_answered i ks =
        let event = emit (Called i.method i.way i.class) in
        answered_passes w tests (place_of i) (tests.body i) (take_unit >>= λ _. event >>= λ _. begins w tests i i.body l ks) ks (take_unit >>= λ _. event >>= λ _. does i)
        (λ h holds. answered_bind w tests take_unit (λ _. event >>= λ _. begins w tests i i.body l ks) (λ _. event >>= λ _. does i) ks
        (λ _. answered_bind w tests event (λ _. begins w tests i i.body l ks) (λ _. does i) ks
        (λ _. begins_answered w tests l matched (blocks_answered w tests l matched) i i.body ks)))

    -- ---- all bodies

    abbrev Rest : List Invocation → List Waiting → Type 0
    Rest is ks = (u : Value) → Answered w tests (go (Invoking (left l is u)) ks) ks (all_invoked w tests call is u)

    then_answered : (b : Bool) (i : Invocation) (is : List Invocation) (v : Value) (ks : List Waiting) → Rest is ks
        → Answered w tests (first i (waits b l is v ks)) ks (invoked w tests call i >>= λ u. all_invoked w tests call is (if b then u else v))
    then_answered false i is v ks rest =
        answered_then w tests (first i (ForHook (left l is v) ∷ ks)) (ForHook (left l is v)) ks (invoked w tests call i) (λ u. all_invoked w tests call is v) (first_answered i (ForHook (left l is v) ∷ ks)) (λ u. rest v)
    then_answered true i [] v ks rest = record {
      by = λ s.
          subst (λ r. Come w tests ((first i ks).does s) (answers w tests ks r)) (sym (unchanged ((invoked w tests call i).does s))) ((first_answered i ks).by s);
    }
    then_answered true i (j ∷ js) v ks rest =
        answered_then w tests (first i (ForMethod l (j ∷ js) ∷ ks)) (ForMethod l (j ∷ js)) ks (invoked w tests call i) (λ u. all_invoked w tests call (j ∷ js) u) (first_answered i (ForMethod l (j ∷ js) ∷ ks)) rest

    invoking : (is : List Invocation) (v : Value) (ks : List Waiting) → Answered w tests (invoke_next w tests l is v ks) ks (all_invoked w tests call is v) → Answered w tests (go (Invoking (left l is v)) ks) ks (all_invoked w tests call is v)
    invoking is v ks h = record { by = λ s. comes_step (step w tests) (frames (Invoking (left l is v)) ks) s (answers w tests ks ((all_invoked w tests call is v).does s)) (h.by s) }

    all_answered : (is : List Invocation) (ks : List Waiting) → Rest is ks
    all_answered [] ks v = invoking [] v ks (answered_pure w tests v ks)
    all_answered (i ∷ is) ks v = invoking (i ∷ is) v ks (then_answered i.answers i is v ks (all_answered is ks))

    bodies_answered : (q : Request) (ks : List Waiting) → Answered w tests (call_at w tests (suc l) q ks) ks (reading (λ h. all_invoked w tests call (call_bodies w (class_of w h q.self) q) Nil))
    bodies_answered q ks = record { by = λ s. (let x = class_of w s.heap q.self in (all_answered (call_bodies w x q) ks Nil).by s) }

  -- ---- calls

  tested_none : (q : Request) → tested w tests zero q ≡ (passes q.from (tests.call q) >> fault faults.Depth q.from)
  unfolding tested
  tested_none q = refl

  tested_some : (l : ℕ) (q : Request) → tested w tests (suc l) q ≡ (passes q.from (tests.call q) >> reading (λ h. all_invoked w tests (tested w tests l) (call_bodies w (class_of w h q.self) q) Nil))
  unfolding tested
  tested_some l q = refl

  calling : (l : ℕ) (q : Request) (ks : List Waiting) (m : Act Value) → Answered w tests (call_at w tests l q ks) ks m → tested w tests l q ≡ (passes q.from (tests.call q) >> m)
      → Answered w tests (go (Calling l q) ks) ks (tested w tests l q)
  calling l q ks m h e = record {
    by = λ s.
        subst (λ (n : Act Value). Come w tests (here w tests (Calling l q) ks s) (answers w tests ks (n.does s))) (sym e)
        (comes_step (step w tests) (frames (Calling l q) ks) s _ ((answered_passes w tests q.from (tests.call q) (call_at w tests l q ks) ks m (λ g holds. h)).by s));
  }

  none_answered : (q : Request) (ks : List Waiting) → Answered w tests (fault faults.Depth q.from) ks (fault faults.Depth q.from)
  none_answered q ks = record { by = λ s. comes_same (step w tests) (Ends (Faulted faults.Depth q.from) s) }

  -- calls on frames come to what they mean, however many levels are left
  pub matched : (l : ℕ) → Matched w tests l
  matched zero q ks = calling zero q ks (fault faults.Depth q.from) (none_answered q ks) (tested_none q)
  matched (suc l) q ks = calling (suc l) q ks (reading (λ h. all_invoked w tests (tested w tests l) (call_bodies w (class_of w h q.self) q) Nil)) (bodies_answered l (matched l) q ks) (tested_some l q)

  -- ---- main

  main_run : (r : Ran Flow) → Come w tests (answers w tests [] (follow r (λ flow t. Goes (answer_of Nil flow) t))) (over (follow r (λ flow t. Goes tt t)))
  main_run (Goes flow s) = comes_step (step w tests) (frames (Answering (answer_of Nil flow)) []) s _ (comes_same (step w tests) (Goes (Over tt) s))
  main_run (Ends c s) = comes_same (step w tests) (Ends c s)

  pub main_comes : (l : ℕ) (main : Block) (s : State) → ComesTo (step w tests) (main_frames l main) s ((tested_main w tests l main).does s)
  main_comes l main s =
      comes_to (step w tests) (main_frames l main) s ((tested_main w tests l main).does s)
      (comes_trans (step w tests) _ (answers w tests [] ((body_act w (tested w tests l) (record { me = Nil; place = InMain }) Nil main []).does s)) _
      (body_comes w tests l (matched l) (record { me = Nil; place = InMain }) Nil [] main [] s)
      (main_run ((run_block w (tested w tests l) (record { me = Nil; place = InMain }) main []).does s)))
