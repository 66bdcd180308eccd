-- Runs with another fuel, and how they end.
use Rattle.std.specs.Prelude.{◌≡◌, ℕ}
use Rattle.som_semantics.specs.State.{State}
use Rattle.som_semantics.specs.Runs.{Faulted, Spent, Ran, Goes, Ends}

-- a state with its fuel replaced by so much
abbrev pub with_fuel : ℕ → State → State
with_fuel n s = record { fuel = n; events = s.events; heap = s.heap }

-- a run with the fuel that it leaves replaced by so much: its end, events and objects stay
abbrev pub left_with : {A : Type 0} → ℕ → Ran A → Ran A
left_with n (Goes a s) = Goes a (with_fuel n s)
left_with n (Ends c s) = Ends c (with_fuel n s)

-- it came to its end, or to a fault
abbrev pub IsOver : {A : Type 0} → Ran A → Type 0
IsOver (Goes a s) = Unit {0}
IsOver (Ends (Faulted f at) s) = Unit {0}
IsOver (Ends Spent s) = ⊥

-- the fuel was spent: nothing is left of it
abbrev pub IsSpent : {A : Type 0} → Ran A → Type 0
IsSpent (Ends Spent s) = s.fuel ≡ 0
IsSpent _ = ⊥
