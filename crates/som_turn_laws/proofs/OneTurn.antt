-- One turn more: what a client has printed then is what it prints alone with one unit more.
use Rattle.std.proofs.Common.{◌≡◌, ℕ, zero, suc, ◌+◌, if◌then◌else◌, List, [], ◌++◌, drop, length, refl, sym, ap, ◌∙◌, subst, append_assoc, append-nil, arith}
use Rattle.std.proofs.Math.Seq.{drop-append_seam}
use Rattle.std.proofs.lemmas.Grind.{flat_map-append}
use Rattle.som_semantics.specs.State.{Event}
use Rattle.som_semantics.specs.Runs.{Faulted, Spent, Ran, Goes, Ends, end_of, IsMore}
use Rattle.som_semantics.specs.RunText.{no_trace, event_lines, events_lines, run_lines}
use Rattle.som_turn_laws.specs.Clients.{Client, IsMain, Done, AtFault, became, is_going}
use Rattle.som_turn_laws.specs.Turns.{alone_lines, fault_lines, turn_lines}
use Rattle.som_turn_laws.proofs.Ending.{more, quiet}

-- the lines of a run are those of its events and of its fault
run_parts : (r : Ran (Unit {0})) → run_lines no_trace r ≡ events_lines no_trace (end_of r).events ++ fault_lines (became r)
run_parts (Goes a s) = sym (append-nil (events_lines no_trace s.events))
run_parts (Ends (Faulted f at) s) = refl
run_parts (Ends Spent s) = refl

-- events that grew: their lines are those from before and those of what is new
grown : (es c fs : List Event) (ls : List (List ℕ)) → fs ≡ es ++ c
    → (events_lines no_trace es ++ []) ++ (events_lines no_trace (drop (length es) fs) ++ ls) ≡ events_lines no_trace fs ++ ls
grown es c fs ls e =
    let rest : drop (length es) fs ≡ c = ap (drop (length es)) e ∙ drop-append_seam es c in
    let all : events_lines no_trace fs ≡ events_lines no_trace es ++ events_lines no_trace c = ap (events_lines no_trace) e ∙ flat_map-append (event_lines no_trace) es c in
    ap (λ l. l ++ (events_lines no_trace (drop (length es) fs) ++ ls)) (append-nil (events_lines no_trace es))
    ∙ ap (λ l. events_lines no_trace es ++ (events_lines no_trace l ++ ls)) rest
    ∙ sym (append_assoc (events_lines no_trace es) (events_lines no_trace c) ls)
    ∙ ap (λ l. l ++ ls) (sym all)

-- the lines that a run has more than another one
abbrev more_lines : Ran (Unit {0}) → Ran (Unit {0}) → List (List ℕ)
more_lines r r' = events_lines no_trace (drop (length (end_of r).events) (end_of r').events) ++ (if is_going (became r) then fault_lines (became r') else [])

step : (r r' : Ran (Unit {0})) → IsMore 1 r r' → run_lines no_trace r ++ more_lines r r' ≡ run_lines no_trace r'
step (Goes a s) r' h =
    ap (λ l. run_lines no_trace (Goes a s) ++ l) (quiet s.events (end_of r').events Done (became r') (ap (λ (z : Ran (Unit {0})). (end_of z).events) h) refl)
    ∙ append-nil (run_lines no_trace (Goes a s)) ∙ sym (ap (run_lines no_trace) h)
step (Ends (Faulted f at) s) r' h =
    ap (λ l. run_lines {A = Unit {0}} no_trace (Ends (Faulted f at) s) ++ l) (quiet s.events (end_of r').events (AtFault f at) (became r') (ap (λ (z : Ran (Unit {0})). (end_of z).events) h) refl)
    ∙ append-nil (run_lines {A = Unit {0}} no_trace (Ends (Faulted f at) s)) ∙ sym (ap (run_lines no_trace) h)
step (Ends Spent s) r' h = grown s.events h.events.0 (end_of r').events (fault_lines (became r')) h.events.1 ∙ sym (run_parts r')

pub next_lines : (client : Client) → IsMain client → (n : ℕ) → alone_lines client n ++ turn_lines client n ≡ alone_lines client (suc n)
next_lines client is zero = sym (run_parts (client (suc zero)))
next_lines client is (suc n) =
    let one : suc n + 1 ≡ suc (suc n) = omega arith in
    step (client (suc n)) (client (suc (suc n))) (subst (λ m. IsMore 1 (client (suc n)) (client m)) one (more client is (suc n) 1))
