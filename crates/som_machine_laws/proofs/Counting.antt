-- The call events of a step that goes on, and of events that are joined.
use Rattle.std.proofs.Common.{◌≡◌, ◌≤◌, ◌+◌, ◌*◌, ℕ, Bool, true, false, if◌then◌else◌, List, [], ◌∷◌, ◌++◌, refl, sym, ap, subst, arith}
use Rattle.som_model.specs.declared.program.Fault.TheVariants as faults
use Rattle.som_semantics.specs.World.{World}
use Rattle.som_semantics.specs.State.{State, Event, Printed, Called, Used, Value}
use Rattle.som_semantics.specs.Runs.{Ran, Goes, end_of, follow, IsPrefix}
use Rattle.som_semantics.specs.Acts.{pure, fault}
use Rattle.som_semantics.specs.RunText.{call_count}
use Rattle.som_code.specs.Machine as machine
use Rattle.som_code.specs.Machine.{On}
use Rattle.som_machine_laws.specs.Counts.{invokes, unless_spent}
use Rattle.som_machine_laws.specs.Frames.{Frames, Invocation, Now, Running, Calling, Invoking, Answering, Waiting}
use Rattle.som_machine_laws.specs.Step.{invoke_next, next, step}
use Rattle.som_machine_laws.specs.Tested.{Tests, place_of}
use Rattle.som_machine_laws.specs.Weight.{IsNowSound}
use Rattle.som_machine_laws.proofs.Steps.{next_fine}
use Rattle.som_machine_laws.specs.Counted.{first_looks, looks}

pub count_both : (es fs : List Event) → call_count (es ++ fs) ≡ call_count es + call_count fs
count_both [] fs = omega arith
count_both (Printed t ∷ es) fs = count_both es fs
count_both (Called r way k ∷ es) fs = let e = count_both es fs in omega (arith, e)
count_both (Used k ∷ es) fs = count_both es fs

pub count_front : (es fs : List Event) → IsPrefix es fs → call_count es ≤ call_count fs
count_front es fs p = let e = ap call_count p.1 in let b = count_both es p.0 in omega (arith, e, b)

pub looks_most : (now : Now) → looks now ≤ 2
looks_most (Running b) = omega arith
looks_most (Calling l q) = omega arith
looks_most (Invoking left) = most left.bodies
  where
    most : (is : List Invocation) → first_looks is ≤ 2
    most [] = omega arith
    most (i ∷ is) = omega arith
looks_most (Answering v) = omega arith

-- a step that goes on has taken as many steps to look up as for the bodies that it invoked
module _ (w : World) (tests : Tests) (ks : List Waiting) (gs : Frames) (s t : State) where
  passed : (i : Invocation) (k : Unit {0} → State → Ran (machine.After Frames (Unit {0}))) (b : Bool) → tests.body i s.heap ≡ b
      → follow ((if b then pure (tt {0}) else fault faults.Nil (place_of i)).does s) k ≡ Goes (On gs) t → tests.body i s.heap ≡ true
  passed i k true e h = e
  passed i k false e h = absurd cc

  first_invoked : (l : ℕ) (is : List Invocation) (v : Value) → (invoke_next w tests l is v ks).does s ≡ Goes (On gs) t → first_looks is ≡ 2 * invokes tests (Invoking (record { levels = l; bodies = is; answer = v })) s.heap
  first_invoked l [] v h = omega arith
  first_invoked l (i ∷ is) v h = let p = passed i _ (tests.body i s.heap) refl h in ap (λ (b : Bool). 2 * (if b then 1 else 0)) (sym p)

  invoked : (now : Now) → (next w tests now ks).does s ≡ Goes (On gs) t → looks now ≡ 2 * invokes tests now s.heap
  invoked (Running b) h = omega arith
  invoked (Calling l q) h = omega arith
  invoked (Invoking left) h = first_invoked left.levels left.bodies left.answer h
  invoked (Answering v) h = omega arith

-- and so for its call events
pub looks_counted : (w : World) (tests : Tests) (fs gs : Frames) (s t : State) (es : List Event) → IsNowSound fs.now → (step w tests fs).does s ≡ Goes (On gs) t → t.events ≡ s.events ++ es → looks fs.now ≡ 2 * call_count es
looks_counted w tests fs gs s t es sound h e =
    let counts = (next_fine w tests fs.now fs.waiting sound).counts s in
    let here : call_count t.events ≡ call_count s.events + invokes tests fs.now s.heap = subst (λ (r : Ran (machine.After Frames (Unit {0}))). call_count (end_of r).events ≡ call_count s.events + unless_spent (invokes tests fs.now s.heap) r) h counts in
    let both = count_both s.events es in
    let same = ap call_count e in
    let is = invoked w tests fs.waiting gs s t fs.now h in
    omega (arith, here, both, same, is)
