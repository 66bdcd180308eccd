-- A client by the units that it has had: what it has shown, and what became of it.
use Rattle.std.specs.Prelude.{◌≡◌, ℕ, zero, suc, Bool, true, false, List, []}
use Rattle.som_model.specs.declared.program.Fault.{Fault}
use Rattle.som_model.specs.declared.syntax.Block.{Block}
use Rattle.som_semantics.specs.World.{World}
use Rattle.som_semantics.specs.State.{Event, Place}
use Rattle.som_semantics.specs.Runs.{Faulted, Spent, Ran, Goes, Ends, end_of}
use Rattle.som_semantics.specs.Means.{means_in}

-- a client: what its main does with so many units
abbrev pub Client : Type 0
Client = ℕ → Ran (Unit {0})

-- it is what a main means among some classes
pub record IsMain (client : Client) : Type 0 where
  pub world : World
  pub main : Block
  pub means : (units : ℕ) → client units ≡ means_in world main units

-- the events that a client has shown after so many units: those before its first unit are shown with that one
abbrev pub shown_after : Client → ℕ → List Event
shown_after client zero = []
shown_after client (suc n) = (end_of (client (suc n))).events

-- what became of a client: it goes on, its main was done, or it came to a fault at a place
pub data ClientEnd : Type 0 where
  Going : ClientEnd
  Done : ClientEnd
  AtFault : Fault → Place → ClientEnd

-- what became of a run: it goes on where its units were spent
abbrev pub became : Ran (Unit {0}) → ClientEnd
became (Goes a s) = Done
became (Ends (Faulted f at) s) = AtFault f at
became (Ends Spent s) = Going

-- the end that a client has after so many units: before its first one it goes on
abbrev pub end_after : Client → ℕ → ClientEnd
end_after client zero = Going
end_after client (suc n) = became (client (suc n))

-- whether a client goes on
abbrev pub is_going : ClientEnd → Bool
is_going Going = true
is_going _ = false
