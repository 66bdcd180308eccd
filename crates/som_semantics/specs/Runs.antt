-- What becomes of an act, the laws that every act keeps, and what a sink keeps of a run.
use Rattle.std.specs.Prelude.{◌≡◌, ◌≤◌, ℕ, ◌+◌, ◌-◌, false, List, [], ◌∷◌, ◌++◌, Option, Some, slice_get}
use Rattle.som_model.specs.declared.program.Fault.{Fault}
use Rattle.som_semantics.specs.State.{Instance, Heap, Place, Event, State}

-- how a run is cut short: by a fault at a place, or for want of fuel
pub data Cut : Type 0 where
  Faulted : Fault → Place → Cut
  Spent : Cut

-- what became of an act: it goes on with a value, or the run ends
pub data Ran (A : Type 0) : Type 0 where
  Goes : A → State → Ran A
  Ends : Cut → State → Ran A

-- the state that an act leaves
abbrev pub end_of : {A : Type 0} → Ran A → State
end_of (Goes a s) = s
end_of (Ends c s) = s

-- what follows an act is done where it goes on
abbrev pub follow : {A B : Type 0} → Ran A → (A → State → Ran B) → Ran B
follow (Goes a s) k = k a s
follow (Ends c s) k = Ends c s

-- ---- the laws of acts

-- a is the beginning of b
abbrev pub IsPrefix : List Event → List Event → Type 0
IsPrefix a b = (c : List Event) × (b ≡ a ++ c)

-- an object stays what it was: its class and its target don't change, and one that was freed stays freed
pub record Stays (t u : Instance) : Type 0 where
  pub class : u.class ≡ t.class
  pub target : u.target ≡ t.target
  pub freed : t.live ≡ false → u.live ≡ false

-- the objects of a heap stand at their places in a later one, each what it was
pub record IsLater (h h' : Heap) : Type 0 where
  pub by : (i : ℕ) (t : Instance) → slice_get h.objects i ≡ Some t → (u : Instance) × (slice_get h'.objects i ≡ Some u) × Stays t u

-- so much more fuel
abbrev pub with_more : ℕ → State → State
with_more k s = record { fuel = s.fuel + k; events = s.events; heap = s.heap }

-- a run that was spent at s comes to t with k units more: nothing was left, of the units one at least is taken where there are any, and it goes on from where it was
pub record IsResumed (k : ℕ) (s t : State) : Type 0 where
  pub nothing_left : s.fuel ≡ 0
  pub takes : t.fuel ≤ k - 1
  pub events : IsPrefix s.events t.events
  pub objects : IsLater s.heap t.heap

-- two runs of one act, the second with k units more: it does what the first did and has these units left; or, where the first spent its fuel, it goes on from there
abbrev pub IsMore : {A : Type 0} → ℕ → Ran A → Ran A → Type 0
IsMore k (Goes a s) r = r ≡ Goes a (with_more k s)
IsMore k (Ends (Faulted f at) s) r = r ≡ Ends (Faulted f at) (with_more k s)
IsMore k (Ends Spent s) r = IsResumed k s (end_of r)

-- a state, and a run, with these events seen before its own
abbrev pub after : List Event → State → State
after es s = record { fuel = s.fuel; events = es ++ s.events; heap = s.heap }

abbrev pub moved : {A : Type 0} → List Event → Ran A → Ran A
moved es (Goes a s) = Goes a (after es s)
moved es (Ends c s) = Ends c (after es s)

-- the laws of a run: events are only added; fuel is only taken; objects stay; it doesn't look at what was seen before; and with more fuel it does what it did with less, and more
pub record Lawful {A : Type 0} (does : State → Ran A) : Type 0 where
  pub grows : (s : State) → IsPrefix s.events (end_of (does s)).events
  pub falls : (s : State) → (end_of (does s)).fuel ≤ s.fuel
  pub later : (s : State) → IsLater s.heap (end_of (does s)).heap
  pub apart : (es : List Event) (s : State) → does (after es s) ≡ moved es (does s)
  pub more : (k : ℕ) (s : State) → IsMore k (does s) (does (with_more k s))

-- ---- what is kept of a run

-- what is kept of events: the bytes that a sink has, where it tells them, and how many bodies were invoked
pub record Out : Type 0 where
  pub bytes : Option (List ℕ)
  pub calls : ℕ

-- how a sink adds an event to what it has kept
abbrev pub Adds : Type 0
Adds = Out → Event → Out

-- what is kept of events, one added after another
abbrev pub added : Adds → Out → List Event → Out
added add o [] = o
added add o (e ∷ es) = added add (add o e) es

-- what a sink was told, with the state of a run: the fuel, what is kept of the events, and the objects
pub record Told : Type 0 where
  pub fuel : ℕ
  pub out : Out
  pub heap : Heap

-- what an act comes to, as in Ran, but with what a sink keeps of the events in place of them
pub data Kept (A : Type 0) : Type 0 where
  KGoes : A → Told → Kept A
  KEnds : Cut → Told → Kept A

-- a state, with what is kept of its events
abbrev pub as_told : Adds → Out → State → Told
as_told add o s = record { fuel = s.fuel; out = added add o s.events; heap = s.heap }

-- what became of an act, with what is kept of the events
abbrev pub kept : {A : Type 0} → Adds → Out → Ran A → Kept A
kept add o (Goes a s) = KGoes a (as_told add o s)
kept add o (Ends c s) = KEnds c (as_told add o s)

-- what follows, on what is kept
abbrev pub kept_on : {A B : Type 0} → Kept A → (A → Told → Kept B) → Kept B
kept_on (KGoes a t) k = k a t
kept_on (KEnds c t) k = KEnds c t

-- the state that begins there
abbrev pub fresh : Told → State
fresh t = record { fuel = t.fuel; events = []; heap = t.heap }

-- ---- acts

-- an act: what it does from a state, and what it does before a sink that keeps events, however it keeps them; it keeps the laws, and what is kept is what its events say
pub record Act (A : Type 0) : Type 0 where
  pub does : State → Ran A
  pub told : Adds → Told → Kept A
  pub law : Lawful does
  pub link : (add : Adds) (t : Told) → told add t ≡ kept add t.out (does (fresh t))
