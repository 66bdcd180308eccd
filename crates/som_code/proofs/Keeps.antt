-- How many locals a statement leaves visible.
use Rattle.std.proofs.Common.{◌≡◌, ◌≤◌, ◌+◌, ℕ, zero, suc, List, [], ◌∷◌, ◌++◌, length, take, Bool, true, false, if◌then◌else◌, refl, sym, ap, ◌∙◌, subst, arith, length-append}
use Rattle.std.specs.Prelude.{slice_set}
use Rattle.som_semantics.specs.State.{Value, State}
use Rattle.som_semantics.specs.Runs.{Ran, Goes, Ends, follow, Act}
use Rattle.som_semantics.specs.Acts.{◌>>=◌, ◌>>◌, pure, take_unit}
use Rattle.som_semantics.specs.Expressions.{Frame, Evals, is_true}
use Rattle.som_semantics.specs.Statements.{Flow, Next, Return, Returned, Runs, go_on, turn, turns, while_loop, all_of, leave}

-- an act that went on did so through its first part
pub came : {A B : Type 0} (r : Ran A) (k : A → State → Ran B) (y : B) (t : State) → follow r k ≡ Goes y t → (x : A) × (u : State) × (r ≡ Goes x u) × (k x u ≡ Goes y t)
came (Goes x u) k y t h = (x, u, refl, h)
came (Ends c u) k y t h = absurd cc

pub goes_is : {A : Type 0} {x y : A} {s t : State} → ◌≡◌ {A = Ran A} (Goes x s) (Goes y t) → (x ≡ y) × (s ≡ t)
goes_is h = (cc, cc)

pub next_is : {f g : Frame} → ◌≡◌ {A = Flow} (Next f) (Next g) → f ≡ g
next_is h = cc

pub same_length : (fr : Frame) → length fr ≡ length fr + 0
same_length fr = omega arith

pub one_longer : (fr : Frame) (v : Value) → length (fr ++ v ∷ []) ≡ length fr + 1
one_longer fr v = simp length-append (omega arith)

pub set_length : (fr : Frame) (n : ℕ) (v : Value) → length (slice_set fr n v) ≡ length fr
set_length [] n v = refl
set_length (x ∷ fr) zero v = refl
set_length (x ∷ fr) (suc n) v = ap suc (set_length fr n v)

take_length : (n : ℕ) (fr : Frame) → n ≤ length fr → length (take n fr) ≡ n
take_length zero fr h = refl
take_length (suc n) [] h = absurd (omega arith)
take_length (suc n) (x ∷ fr) h = let g : n ≤ length fr = omega arith in ap suc (take_length n fr g)

-- where it goes on, so many locals more are visible
pub record Keeps (m : Runs) (adds : ℕ) : Type 0 where
  pub by : (fr : Frame) (s : State) (fr' : Frame) (t : State) → (m fr).does s ≡ Goes (Next fr') t → length fr' ≡ length fr + adds

pub keeps_next : (f : Frame → Frame) (adds : ℕ) → ((fr : Frame) → length (f fr) ≡ length fr + adds) → Keeps (λ fr. pure (Next (f fr))) adds
keeps_next f adds l = record { by = λ fr s fr' t h. ap length (sym (next_is (goes_is h).0)) ∙ l fr }

-- what comes before leaves them alone
pub keeps_after : {A : Type 0} (m : Frame → Act A) (k : A → Runs) (adds : ℕ) → ((x : A) → Keeps (k x) adds) → Keeps (λ fr. m fr >>= λ x. k x fr) adds
keeps_after m k adds h = record { by = λ fr s fr' t e. let p = came ((m fr).does s) (λ x. (k x fr).does) (Next fr') t e in (h p.0).by fr p.1 fr' t p.3 }

pub keeps_return : (adds : ℕ) → Keeps (λ fr. pure Return) adds
keeps_return adds = record { by = λ fr s fr' t h. let e : ◌≡◌ {A = Flow} Return (Next fr') = (goes_is h).0 in absurd cc }

pub keeps_returned : (v : Value) (adds : ℕ) → Keeps (λ fr. pure (Returned v)) adds
keeps_returned v adds = record { by = λ fr s fr' t h. let e : ◌≡◌ {A = Flow} (Returned v) (Next fr') = (goes_is h).0 in absurd cc }

pub keeps_if : (b : Bool) (m m' : Runs) (adds : ℕ) → Keeps m adds → Keeps m' adds → Keeps (λ fr. if b then m fr else m' fr) adds
keeps_if true m m' adds k k' = k
keeps_if false m m' adds k k' = k'

on_keeps : (rest : Runs) → Keeps rest 0 → (n : ℕ) (flow : Flow) (s : State) (fr' : Frame) (t : State) → ((g : Frame) → flow ≡ Next g → length g ≡ n + 0) → (go_on flow rest).does s ≡ Goes (Next fr') t → length fr' ≡ n + 0
on_keeps rest k n (Next g) s fr' t l h = let a : length g ≡ n + 0 = l g refl in let b : length fr' ≡ length g + 0 = k.by g s fr' t h in omega (arith, a, b)
on_keeps rest k n Return s fr' t l h = let e : ◌≡◌ {A = Flow} Return (Next fr') = (goes_is h).0 in absurd cc
on_keeps rest k n (Returned v) s fr' t l h = let e : ◌≡◌ {A = Flow} (Returned v) (Next fr') = (goes_is h).0 in absurd cc

both_keep : (m rest : Runs) → Keeps m 0 → Keeps rest 0 → Keeps (λ fr. m fr >>= λ flow. go_on flow rest) 0
both_keep m rest k k' = record {
  by = λ fr s fr' t h.
      let p = came ((m fr).does s) (λ flow. (go_on flow rest).does) (Next fr') t h in
      on_keeps rest k' (length fr) p.0 p.1 fr' t (λ g e. k.by fr s g p.1 (p.2 ∙ ap (λ (f : Flow). Goes f p.1) e)) p.3;
}

turn_keeps : (c : Evals) (m rest : Runs) → Keeps m 0 → Keeps rest 0 → Keeps (turn c m rest) 0
turn_keeps c m rest k k' =
    keeps_after c (λ v fr. if is_true v then (take_unit >> (m fr >>= λ flow. go_on flow rest)) else pure (Next fr)) 0
    (λ v. keeps_if (is_true v) (λ fr. take_unit >> (m fr >>= λ flow. go_on flow rest)) (λ fr. pure (Next fr)) 0
    (keeps_after (λ fr. take_unit) (λ _ fr. m fr >>= λ flow. go_on flow rest) 0 (λ _. both_keep m rest k k'))
    (keeps_next (λ fr. fr) 0 same_length))

turns_keep : (c : Evals) (m : Runs) → Keeps m 0 → (n : ℕ) → Keeps (turns n c m) 0
turns_keep c m k zero = turn_keeps c m (λ fr. pure (Next fr)) k (keeps_next (λ fr. fr) 0 same_length)
turns_keep c m k (suc n) = turn_keeps c m (turns n c m) k (turns_keep c m k n)

pub loop_keeps : (c : Evals) (m : Runs) → Keeps m 0 → Keeps (while_loop c m) 0
loop_keeps c m k = record { by = λ fr s fr' t h. (turns_keep c m k s.fuel).by fr s fr' t h }

-- no statement takes locals away
abbrev pub AtLeast : Runs → Type 0
AtLeast m = (fr : Frame) (s : State) (fr' : Frame) (t : State) → (m fr).does s ≡ Goes (Next fr') t → length fr ≤ length fr'

then_at_least : (rest : Runs) → AtLeast rest → (n : ℕ) (flow : Flow) (s : State) (fr' : Frame) (t : State) → ((fr : Frame) → flow ≡ Next fr → n ≤ length fr) → (go_on flow rest).does s ≡ Goes (Next fr') t → n ≤ length fr'
then_at_least rest r n (Next fr) s fr' t l h = let a : n ≤ length fr = l fr refl in let b : length fr ≤ length fr' = r fr s fr' t h in omega (arith, a, b)
then_at_least rest r n Return s fr' t l h = let e : ◌≡◌ {A = Flow} Return (Next fr') = (goes_is h).0 in absurd cc
then_at_least rest r n (Returned v) s fr' t l h = let e : ◌≡◌ {A = Flow} (Returned v) (Next fr') = (goes_is h).0 in absurd cc

pub none_least : AtLeast (all_of [])
none_least fr s fr' t h = let e : fr ≡ fr' = next_is (goes_is h).0 in subst (λ (l : Frame). length fr ≤ length l) e (omega arith)

pub next_least : (m : Runs) (adds : ℕ) (ms : List Runs) → Keeps m adds → AtLeast (all_of ms) → AtLeast (all_of (m ∷ ms))
next_least m adds ms k r fr s fr' t h =
    let p = came ((m fr).does s) (λ flow. (go_on flow (all_of ms)).does) (Next fr') t h in
    then_at_least (all_of ms) r (length fr) p.0 p.1 fr' t (λ g e. let z : length g ≡ length fr + adds = k.by fr s g p.1 (p.2 ∙ ap (λ (f : Flow). Goes f p.1) e) in omega (arith, z)) p.3

left : (n : ℕ) (flow : Flow) (fr' : Frame) → ((g : Frame) → flow ≡ Next g → n ≤ length g) → leave n flow ≡ Next fr' → length fr' ≡ n + 0
left n (Next g) fr' l h = let e : take n g ≡ fr' = next_is h in let z : length (take n g) ≡ n = take_length n g (l g refl) in
    subst (λ (f : Frame). length f ≡ n + 0) e (omega (arith, z))
left n Return fr' l h = absurd cc
left n (Returned v) fr' l h = absurd cc

-- a block: its own locals end with it
pub block_keeps : (ms : List Runs) → AtLeast (all_of ms) → Keeps (λ fr. all_of ms fr >>= λ flow. pure (leave (length fr) flow)) 0
block_keeps ms r = record {
  by = λ fr s fr' t h.
      let p = came ((all_of ms fr).does s) (λ flow u. Goes (leave (length fr) flow) u) (Next fr') t h in
      left (length fr) p.0 fr' (λ g e. r fr s g p.1 (p.2 ∙ ap (λ (f : Flow). Goes f p.1) e)) (goes_is p.3).0;
}
