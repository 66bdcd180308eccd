-- Clients whose turns are worked out.
use Rattle.std.specs.Prelude.{ℕ, zero, suc, List, [], ◌∷◌, codes}
use Rattle.som_model.specs.declared.program.Fault.TheVariants as faults
use Rattle.som_semantics.specs.State.{Nil, Printed, InMain, Event, State}
use Rattle.som_semantics.specs.Runs.{Faulted, Spent, Goes, Ends}
use Rattle.som_semantics.specs.RunText.{printed_line, fault_line}
use Rattle.som_turn_laws.specs.Clients.{Client}
use Rattle.som_turn_laws.specs.Turns.{Clients}

-- a state without objects in which so much fuel is left, after these events
abbrev pub objectless : ℕ → List Event → State
objectless fuel events = record { fuel = fuel; events = events; heap = record { objects = []; statics = λ k c n. Nil } }

-- a client that prints a, takes two units and prints b
abbrev pub printer : Client
printer zero = Ends Spent (objectless 0 (Printed (codes "a") ∷ []))
printer (suc zero) = Ends Spent (objectless 0 (Printed (codes "a") ∷ []))
printer (suc (suc n)) = Goes tt (objectless n (Printed (codes "a") ∷ Printed (codes "b") ∷ []))

-- a client that takes two units and comes to a fault
abbrev pub breaker : Client
breaker zero = Ends Spent (objectless 0 [])
breaker (suc zero) = Ends Spent (objectless 0 [])
breaker (suc (suc n)) = Ends (Faulted faults.Freed InMain) (objectless n [])

-- two clients that do the same
abbrev pub two_printers : Clients
two_printers i = printer

abbrev pub two_breakers : Clients
two_breakers i = breaker

-- their lines
abbrev pub line_a : List ℕ
line_a = printed_line (codes "a")

abbrev pub line_b : List ℕ
line_b = printed_line (codes "b")

abbrev pub line_freed : List ℕ
line_freed = fault_line faults.Freed InMain
