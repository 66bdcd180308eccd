-- Pieces of code that go on with other locals, or end the body.
use Rattle.std.proofs.Common.{◌≡◌, ◌≤◌, ◌+◌, ℕ, zero, suc, List, [], ◌∷◌, ◌++◌, length, take, if◌then◌else◌, refl, sym, ap, ◌∙◌, subst, arith, length-append}
use Rattle.som_semantics.specs.World.{World}
use Rattle.som_semantics.specs.State.{Value, Event, Heap, State}
use Rattle.som_semantics.specs.Runs.{Ran, Goes, Ends, end_of, follow, Act}
use Rattle.som_semantics.specs.Acts.{◌>>=◌, ◌>>◌, pure, take_unit, unit_from, self_le}
use Rattle.som_semantics.specs.Calls.{Calls, Here}
use Rattle.som_semantics.specs.Expressions.{Frame, Evals, is_true}
use Rattle.som_semantics.specs.Statements.{Flow, Next, Return, Returned, Runs, go_on, while_loop, all_of, leave}
use Rattle.som_semantics.proofs.LoopLaws.{while_is}
use Rattle.som_code.specs.declared.instruction.Instruction.{Instruction}
use Rattle.som_code.specs.declared.instruction.Instruction.TheVariants as ops
use Rattle.som_code.specs.Machine.{After, On, Over}
use Rattle.som_code.specs.Effect.{Conf, conf, step, obey}
use Rattle.som_code.specs.Laid.{Lays, Bodies, Laid, just, ◌then◌, lay_all, lay_choice, lay_loop}
use Rattle.som_code.proofs.Leads.{lead_bind, lead_trans, lead_none, follow_assoc}
use Rattle.som_code.proofs.Sits.{Sits, sits_front, sits_back}
use Rattle.som_code.proofs.Pieces.{Goes_to, one, one_then, Puts, decides, then_length}
use Rattle.som_code.proofs.Keeps.{Keeps}

module _ (w : World) (here : Here) (zero_value : Value) (call : Calls) (code : List Instruction) where
  abbrev G : Conf → State → Ran (After Conf Value) → Type 0
  G = Goes_to w here zero_value call code

  abbrev machine : Conf → Act (After Conf Value)
  machine = step w here zero_value call code

  -- where code goes that ends at a place: on there, or out of the body
  abbrev pub landing : ℕ → List Value → Flow → State → Ran (After Conf Value)
  landing b st (Next fr) t = Goes (On (conf b st fr)) t
  landing b st Return t = Goes (Over zero_value) t
  landing b st (Returned v) t = Goes (Over v) t

  -- a piece of code, where these operands are on top and so many locals are visible
  pub record Flows (taken : List Value) (m : Runs) (lays : Bodies) : Type 0 where
    pub by : (a d : ℕ) (st : List Value) (fr : Frame) (s : State) → length fr ≡ d → Sits code a (lays d a)
        → G (conf a (taken ++ st) fr) s (follow ((m fr).does s) (landing (a + length (lays d a)) st))

  -- one instruction
  pub flows_one : (taken : List Value) (m : Runs) (i : ℕ → Instruction)
      → ((a d : ℕ) (st : List Value) (fr : Frame) (s : State) → length fr ≡ d → (obey w here zero_value call (i d) a (taken ++ st) fr).does s ≡ follow ((m fr).does s) (landing (a + 1) st))
      → Flows taken m (λ d. just (i d))
  flows_one taken m i is = record {
    by = λ a d st fr s l h.
        subst (G (conf a (taken ++ st) fr) s) (is a d st fr s l) (one w here zero_value call code (i d) (conf a (taken ++ st) fr) s h.0);
  }

  -- a value is put on the stack, and the piece after it takes that
  pub flows_then : (taken : List Value) (m : Evals) (k : Value → Runs) (f : Lays) (g : Bodies) → Puts w here zero_value call code taken m f → ((x : Value) → Flows (x ∷ []) (k x) g)
      → Flows taken (λ fr. m fr >>= λ x. k x fr) (λ d. f then g d)
  flows_then taken m k f g first rest = record {
    by = λ a d st fr s l h.
        let b = a + length (f a) in
        subst (λ (n : ℕ). G (conf a (taken ++ st) fr) s (follow (follow ((m fr).does s) (λ x. (k x fr).does)) (landing n st))) (then_length a (f a) (g d b))
        (lead_bind machine (conf a (taken ++ st) fr) s ((m fr).does s) (λ v. conf b (v ∷ st) fr) (λ x. (k x fr).does) (landing (b + length (g d b)) st)
        (first.by a st fr s (sits_front code a (f a) (g d b) h))
        (λ x u _. (rest x).by b d st fr u l (sits_back code a (f a) (g d b) h)));
  }

  -- goes on where the first part goes on; where that returns, all is over
  pub flow_on : (c : Conf) (s : State) (m : Ran Flow) (b : ℕ) (st : List Value) (f : Flow → State → Ran (After Conf Value))
      → G c s (follow m (landing b st)) → ((fr : Frame) (t : State) → m ≡ Goes (Next fr) t → G (conf b st fr) t (f (Next fr) t))
      → ((t : State) → Goes (Over zero_value) t ≡ f Return t) → ((v : Value) (t : State) → Goes (Over v) t ≡ f (Returned v) t) → G c s (follow m f)
  flow_on c s (Goes (Next fr) t) b st f h g r o = lead_trans machine c (conf b st fr) s t (f (Next fr) t) h (g fr t refl)
  flow_on c s (Goes Return t) b st f h g r o = subst (G c s) (r t) h
  flow_on c s (Goes (Returned v) t) b st f h g r o = subst (G c s) (o v t) h
  flow_on c s (Ends e t) b st f h g r o = h

  -- ---- statements one after the other

  pub flows_none : Flows [] (all_of []) (lay_all [])
  flows_none = record {
    by = λ a d st fr s l h. let e : a ≡ a + 0 = omega arith in
        subst (λ (n : ℕ). G (conf a st fr) s (Goes (On (conf n st fr)) s)) e (lead_none machine (conf a st fr) s);
  }

  pub flows_next : (m : Runs) (x : Laid) (ms : List Runs) (xs : List Laid) → Keeps m x.adds → Flows [] m x.lays → Flows [] (all_of ms) (lay_all xs) → Flows [] (all_of (m ∷ ms)) (lay_all (x ∷ xs))
  flows_next m x ms xs keeps flows rest = record {
    by = λ a d st fr s l h.
        let b = a + length (x.lays d a) in
        let ys : List Instruction = lay_all xs (d + x.adds) b in
        subst (λ (n : ℕ). G (conf a st fr) s (follow (follow ((m fr).does s) (λ flow. (go_on flow (all_of ms)).does)) (landing n st))) (then_length a (x.lays d a) ys)
        (subst (G (conf a st fr) s) (sym (follow_assoc ((m fr).does s) (λ flow. (go_on flow (all_of ms)).does) (landing (b + length ys) st)))
        (flow_on (conf a st fr) s ((m fr).does s) b st (λ flow u. follow ((go_on flow (all_of ms)).does u) (landing (b + length ys) st))
        (flows.by a d st fr s l (sits_front code a (x.lays d a) ys h))
        (λ fr' u is. rest.by b (d + x.adds) st fr' u (keeps.by fr s fr' u is ∙ ap (λ n. n + x.adds) l) (sits_back code a (x.lays d a) ys h))
        (λ u. refl) (λ v u. refl)));
  }

  pub flows_block : (ms : List Runs) (xs : List Laid) → Flows [] (all_of ms) (lay_all xs)
      → Flows [] (λ fr. all_of ms fr >>= λ flow. pure (leave (length fr) flow)) (λ d. lay_all xs d then just (ops.Cut d))
  flows_block ms xs flows = record {
    by = λ a d st fr s l h.
        let b = a + length (lay_all xs d a) in
        subst (λ (n : ℕ). G (conf a st fr) s (follow (follow ((all_of ms fr).does s) (λ flow u. Goes (leave (length fr) flow) u)) (landing n st))) (then_length a (lay_all xs d a) (ops.Cut d ∷ []))
        (subst (G (conf a st fr) s) (sym (follow_assoc ((all_of ms fr).does s) (λ flow u. Goes (leave (length fr) flow) u) (landing (b + 1) st)))
        (flow_on (conf a st fr) s ((all_of ms fr).does s) b st (λ flow u. landing (b + 1) st (leave (length fr) flow) u)
        (flows.by a d st fr s l (sits_front code a (lay_all xs d a) _ h))
        (λ fr' u _. subst (λ (n : ℕ). G (conf b st fr') u (Goes (On (conf (b + 1) st (take n fr'))) u)) (sym l)
        (one w here zero_value call code (ops.Cut d) (conf b st fr') u (sits_back code a (lay_all xs d a) _ h).0))
        (λ u. refl) (λ v u. refl)));
  }

  -- ---- choices

  pub flows_choice : (v : Value) (m m' : Runs) (x y : Bodies) → Flows [] m x → Flows [] m' y
      → Flows (v ∷ []) (λ fr. if is_true v then m fr else m' fr) (λ d. lay_choice (x d) (y d))
  flows_choice v m m' x y ok ok' = record {
    by = λ b d st fr s l h.
        let n = b + 1 + length (x d (b + 1)) in
        let end = n + 1 + length (y d (n + 1)) in
        let e : end ≡ b + length (lay_choice (x d) (y d) b) = simp length-append (omega arith) in
        let tail : List Instruction = ops.Jump end ∷ y d (n + 1) in
        let back : Sits code n tail = sits_back code (b + 1) (x d (b + 1)) tail h.1 in
        subst (λ (z : ℕ). G (conf b (v ∷ st) fr) s (follow ((if is_true v then m fr else m' fr).does s) (landing z st))) e
        (decides w here zero_value call code v (m fr) (m' fr) b (n + 1) st fr s (landing end st) h.0
        (flow_on (conf (b + 1) st fr) s ((m fr).does s) n st (landing end st)
        (ok.by (b + 1) d st fr s l (sits_front code (b + 1) (x d (b + 1)) tail h.1))
        (λ fr' u _. one w here zero_value call code (ops.Jump end) (conf n st fr') u back.0)
        (λ u. refl) (λ z u. refl))
        (ok'.by (n + 1) d st fr s l back.1));
  }

  -- ---- loops

  -- the fuel at the end of an act that goes on
  falls : {A : Type 0} (m : Act A) (s : State) (x : A) (t : State) → m.does s ≡ Goes x t → t.fuel ≤ s.fuel
  falls m s x t h = subst (λ (r : Ran _). (end_of r).fuel ≤ s.fuel) h (m.law.falls s)

  module _ (c : Evals) (lc : Lays) (cond : Puts w here zero_value call code [] c lc) (r : Runs) (x : Bodies) (keeps : Keeps r 0) (flows : Flows [] r x) (a d : ℕ) (st : List Value) where
    abbrev m : ℕ
    m = a + 2 + length (x d (a + 2))

    abbrev b : ℕ
    b = m + length (lc m)

    abbrev end : List Instruction
    end = ops.Unless (b + 2) ∷ ops.Jump (a + 1) ∷ []

    abbrev loop : Runs
    loop = while_loop c r

    -- with less fuel than n
    abbrev Loops : ℕ → Type 0
    Loops n = (fr : Frame) (s : State) → length fr ≡ d → suc s.fuel ≤ n → G (conf m st fr) s (follow ((loop fr).does s) (landing (b + 2) st))

    module _ (h : Sits code a (lay_loop lc (x d) a)) where
      body_sits : Sits code (a + 2) (x d (a + 2) ++ (lc m ++ end))
      body_sits = let p : a + 1 + 1 ≡ a + 2 = omega arith in subst (λ (z : ℕ). Sits code z (x d (a + 2) ++ (lc m ++ end))) p h.1.1

      cond_sits : Sits code m (lc m ++ end)
      cond_sits = sits_back code (a + 2) (x d (a + 2)) (lc m ++ end) body_sits

      end_sits : Sits code b end
      end_sits = sits_back code m (lc m) end cond_sits

      -- a turn, from so much fuel
      turned : (n : ℕ) → Loops n → (fr : Frame) → length fr ≡ d → (f : ℕ) (es : List Event) (hp : Heap) → f ≤ n
          → G (conf (a + 1) st fr) (record { fuel = f; events = es; heap = hp }) (follow (follow (unit_from f (record { fuel = f; events = es; heap = hp })) (λ _. (r fr >>= λ flow. go_on flow loop).does)) (landing (b + 2) st))
      turned n loops fr len zero es hp le = one w here zero_value call code ops.Turn (conf (a + 1) st fr) (record { fuel = zero; events = es; heap = hp }) h.1.0
      turned n loops fr len (suc f) es hp le =
          let u : State = record { fuel = f; events = es; heap = hp } in
          let p : a + 1 + 1 ≡ a + 2 = omega arith in
          one_then w here zero_value call code ops.Turn (conf (a + 1) st fr) (conf (a + 1 + 1) st fr) (record { fuel = suc f; events = es; heap = hp }) u _ h.1.0 refl
          (subst (λ (z : ℕ). G (conf z st fr) u (follow (follow ((r fr).does u) (λ flow. (go_on flow loop).does)) (landing (b + 2) st))) (sym p)
          (subst (G (conf (a + 2) st fr) u) (sym (follow_assoc ((r fr).does u) (λ flow. (go_on flow loop).does) (landing (b + 2) st)))
          (flow_on (conf (a + 2) st fr) u ((r fr).does u) m st (λ flow z. follow ((go_on flow loop).does z) (landing (b + 2) st))
          (flows.by (a + 2) d st fr u len (sits_front code (a + 2) (x d (a + 2)) (lc m ++ end) body_sits))
          (λ fr' z is.
          let q : length fr' ≡ length fr + 0 = keeps.by fr u fr' z is in
          let g : z.fuel ≤ f = falls (r fr) u (Next fr') z is in
          loops fr' z (omega (arith, q, len)) (omega (arith, g, le)))
          (λ z. refl) (λ v z. refl))))

      once : (n : ℕ) → Loops n → (fr : Frame) (s : State) → length fr ≡ d → s.fuel ≤ n → G (conf m st fr) s (follow ((loop fr).does s) (landing (b + 2) st))
      once n loops fr s len le =
          subst (λ (z : Ran Flow). G (conf m st fr) s (follow z (landing (b + 2) st))) (sym (while_is c r fr s))
          (lead_bind machine (conf m st fr) s ((c fr).does s) (λ v. conf b (v ∷ st) fr) (λ v. (if is_true v then (take_unit >> (r fr >>= λ flow. go_on flow loop)) else pure (Next fr)).does) (landing (b + 2) st)
          (cond.by m st fr s (sits_front code m (lc m) end cond_sits))
          (λ v u is. decides w here zero_value call code v (take_unit >> (r fr >>= λ flow. go_on flow loop)) (pure (Next fr)) b (b + 2) st fr u (landing (b + 2) st) end_sits.0
          (let g : u.fuel ≤ s.fuel = falls (c fr) s v u is in
          one_then w here zero_value call code (ops.Jump (a + 1)) (conf (b + 1) st fr) (conf (a + 1) st fr) u u _ end_sits.1.0 refl (turned n loops fr len u.fuel u.events u.heap (omega (arith, g, le))))
          (lead_none machine (conf (b + 2) st fr) u)))

      all_loops : (n : ℕ) → Loops n
      all_loops zero fr s len le = absurd (omega (arith, le))
      all_loops (suc n) fr s len le = once n (all_loops n) fr s len (omega (arith, le))

      looped : (fr : Frame) (s : State) → length fr ≡ d → G (conf a st fr) s (follow ((loop fr).does s) (landing (a + length (lay_loop lc (x d) a)) st))
      looped fr s len =
          let e : b + 2 ≡ a + length (lay_loop lc (x d) a) = simp length-append (omega arith) in
          subst (λ (n : ℕ). G (conf a st fr) s (follow ((loop fr).does s) (landing n st))) e
          (one_then w here zero_value call code (ops.Jump m) (conf a st fr) (conf m st fr) s s _ h.0 refl
          (once s.fuel (all_loops s.fuel) fr s len (self_le s.fuel)))

  pub flows_loop : (c : Evals) (lc : Lays) → Puts w here zero_value call code [] c lc → (r : Runs) (x : Bodies) → Keeps r 0 → Flows [] r x → Flows [] (while_loop c r) (λ d. lay_loop lc (x d))
  flows_loop c lc cond r x keeps flows = record { by = λ a d st fr s len h. looped c lc cond r x keeps flows a d st h fr s len }
