-- What a step costs: the bodies that it invokes, and the units that pay for objects.
use Rattle.std.specs.Prelude.{ℕ, ◌+◌, List, [], ◌∷◌, length, if◌then◌else◌}
use Rattle.som_semantics.specs.State.{State, Heap}
use Rattle.som_semantics.specs.Runs.{Ran, Goes, Ends, Faulted, Spent}
use Rattle.som_machine_laws.specs.Tested.{Tests}
use Rattle.som_machine_laws.specs.Frames.{Now, Invoking, Invocation}

abbrev first_of_left : Tests → List Invocation → Heap → ℕ
first_of_left tests [] h = 0
first_of_left tests (i ∷ is) h = if tests.body i h then 1 else 0

-- one, where bodies of a call are left and the first of them passes its test, and else none
abbrev pub invokes : Tests → Now → Heap → ℕ
invokes tests (Invoking left) h = first_of_left tests left.bodies h
invokes tests _ h = 0

-- so many, unless the run is spent
abbrev pub unless_spent : {A : Type 0} → ℕ → Ran A → ℕ
unless_spent n (Goes a s) = n
unless_spent n (Ends (Faulted f at) s) = n
unless_spent n (Ends Spent s) = 0

-- the objects that there are, and the units that are left
abbrev pub size : State → ℕ
size s = length s.heap.objects + s.fuel
