-- A loop is one turn and then the loop: the number of turns that bounds it is never seen.
use Rattle.std.proofs.Common.{◌≡◌, ℕ, zero, suc, ◌≤◌, Bool, true, false, if◌then◌else◌, refl, sym, ap, ◌∙◌, arith}
use Rattle.som_semantics.specs.State.{Value, State}
use Rattle.som_semantics.specs.Runs.{Ran, Goes, Ends, end_of, follow, Act, Adds, Told, kept, fresh}
use Rattle.som_semantics.specs.Acts.{◌>>=◌, ◌>>◌, pure, take_unit, unit_from, le_on}
use Rattle.som_semantics.specs.Expressions.{Frame, Evals, is_true}
use Rattle.som_semantics.specs.Statements.{Flow, Next, Return, Returned, Runs, go_on, turn, turns, while_loop}

module _ (c : Evals) (body : Runs) where
  -- what is done after the condition
  abbrev decided : Runs → Frame → Bool → Act Flow
  decided rest frame b = if b then (take_unit >> (body frame >>= λ flow. go_on flow rest)) else pure (Next frame)

  -- two rests do the same with less fuel than b
  abbrev AreAlike : ℕ → Runs → Runs → Type 0
  AreAlike b r r' = (frame : Frame) (s : State) → suc s.fuel ≤ b → (r frame).does s ≡ (r' frame).does s

  module _ (b : ℕ) (r r' : Runs) (alike : AreAlike b r r') where
    flow_alike : (o : Ran Flow) → suc (end_of o).fuel ≤ b → follow o (λ flow. (go_on flow r).does) ≡ follow o (λ flow. (go_on flow r').does)
    flow_alike (Goes (Next frame) s) le = alike frame s le
    flow_alike (Goes Return s) le = refl
    flow_alike (Goes (Returned v) s) le = refl
    flow_alike (Ends cut s) le = refl

    unit_alike : (n : ℕ) (frame : Frame) (s : State) → n ≤ b → follow (unit_from n s) (λ x. (body frame >>= λ flow. go_on flow r).does) ≡ follow (unit_from n s) (λ x. (body frame >>= λ flow. go_on flow r').does)
    unit_alike zero frame s le = refl
    unit_alike (suc n) frame s le =
        let left : State = record { fuel = n; events = s.events; heap = s.heap } in
        let falls : (end_of ((body frame).does left)).fuel ≤ n = (body frame).law.falls left in
        flow_alike ((body frame).does left) (omega (arith, falls, le))

    test_alike : (t : Bool) (frame : Frame) (s : State) → s.fuel ≤ b → (decided r frame t).does s ≡ (decided r' frame t).does s
    test_alike true frame s le = unit_alike s.fuel frame s le
    test_alike false frame s le = refl

    value_alike : (o : Ran Value) (frame : Frame) → (end_of o).fuel ≤ b → follow o (λ v. (decided r frame (is_true v)).does) ≡ follow o (λ v. (decided r' frame (is_true v)).does)
    value_alike (Goes v s) frame le = test_alike (is_true v) frame s le
    value_alike (Ends cut s) frame le = refl

    turn_alike : (frame : Frame) (s : State) → s.fuel ≤ b → (turn c body r frame).does s ≡ (turn c body r' frame).does s
    turn_alike frame s le = value_alike ((c frame).does s) frame (le_on _ _ _ ((c frame).law.falls s) le)

  -- what follows where no turns are left
  abbrev stops : Runs
  stops frame = pure (Next frame)

  none_alike : (r r' : Runs) → AreAlike 0 r r'
  none_alike r r' frame s le = absurd (omega (arith, le))

  -- as many turns as there is fuel are all turns
  turns_alike : (n m : ℕ) (frame : Frame) (s : State) → s.fuel ≤ n → s.fuel ≤ m → (turns n c body frame).does s ≡ (turns m c body frame).does s
  turns_alike zero zero frame s p q = refl
  turns_alike zero (suc m) frame s p q = turn_alike 0 stops (turns m c body) (none_alike stops (turns m c body)) frame s p
  turns_alike (suc n) zero frame s p q = turn_alike 0 (turns n c body) stops (none_alike (turns n c body) stops) frame s q
  turns_alike (suc n) (suc m) frame s p q =
      turn_alike s.fuel (turns n c body) (turns m c body) (λ f t le. let a : t.fuel ≤ n = omega (arith, le, p) in let b : t.fuel ≤ m = omega (arith, le, q) in turns_alike n m f t a b) frame s (omega arith)

  loop_from : (n : ℕ) (frame : Frame) (s : State) → s.fuel ≤ n → (turns n c body frame).does s ≡ (turn c body (while_loop c body) frame).does s
  loop_from zero frame s p = turn_alike 0 stops (while_loop c body) (none_alike stops (while_loop c body)) frame s p
  loop_from (suc n) frame s p = turn_alike (suc n) (turns n c body) (while_loop c body) (λ f t le. let a : t.fuel ≤ n = omega (arith, le) in let b : t.fuel ≤ t.fuel = omega arith in turns_alike n t.fuel f t a b) frame s p

  -- a loop does one turn, and then what it does from there
  pub while_is : (frame : Frame) (s : State) → (while_loop c body frame).does s ≡ (turn c body (while_loop c body) frame).does s
  while_is frame s = loop_from s.fuel frame s (omega arith)

  -- and so it is told
  pub while_told : (frame : Frame) (add : Adds) (t : Told) → (while_loop c body frame).told add t ≡ (turn c body (while_loop c body) frame).told add t
  while_told frame add t =
      (while_loop c body frame).link add t ∙ ap (kept add t.out) (while_is frame (fresh t)) ∙ sym ((turn c body (while_loop c body) frame).link add t)
