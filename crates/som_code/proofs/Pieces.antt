-- Pieces of code that leave the value of an act on the stack.
use Rattle.std.proofs.Common.{◌≡◌, ◌+◌, ℕ, List, [], ◌∷◌, ◌++◌, length, reverse, take, drop, slice_get, Some, Bool, true, false, if◌then◌else◌, refl, sym, ap, ◌∙◌, subst, arith, suc, length-append, append_assoc}
use Rattle.std.proofs.lemmas.List.{reverse-append, reverse-reverse, length-reverse}
use Rattle.std.proofs.Math.Seq.{take-append_seam, drop-append_seam}
use Rattle.som_semantics.specs.World.{World}
use Rattle.som_semantics.specs.State.{Value, Boolean, State}
use Rattle.som_semantics.specs.Runs.{Ran, Goes, Ends, follow, Act}
use Rattle.som_semantics.specs.Acts.{◌>>=◌, pure}
use Rattle.som_semantics.specs.Calls.{Calls, Here}
use Rattle.som_semantics.specs.Expressions.{Frame, Evals, is_true, each_of}
use Rattle.som_code.specs.declared.instruction.Constant.TheVariants as constants
use Rattle.som_code.specs.declared.instruction.Instruction.{Instruction}
use Rattle.som_code.specs.declared.instruction.Instruction.TheVariants as ops
use Rattle.som_code.specs.Machine.{After, On}
use Rattle.som_code.specs.Effect.{Conf, conf, on, top, below, arguments, push, obey, obey_at, step}
use Rattle.som_code.specs.Laid.{Lays, nothing, just, ◌then◌, lay_each, lay_and, lay_or}
use Rattle.som_code.proofs.Leads.{Leads, lead_on, lead_bind, lead_step, lead_trans, follow_assoc}
use Rattle.som_code.proofs.Sits.{Sits, sits_front, sits_back}

pub then_length : (a : ℕ) (x y : List Instruction) → a + length x + length y ≡ a + length (x ++ y)
then_length a x y = simp length-append (omega arith)

-- ---- arguments on the stack, the last on top

one_above : (x : Value) (vs st : List Value) → reverse (x ∷ vs) ++ st ≡ reverse vs ++ x ∷ st
one_above x vs st = ap (λ (l : List Value). l ++ st) (reverse-append (x ∷ []) vs) ∙ append_assoc (reverse vs) (x ∷ []) st

args_taken : (n : ℕ) (vs rest st : List Value) → n ≡ length vs → arguments n ((reverse vs ++ rest) ++ st) ≡ vs
args_taken n vs rest st e =
    ap (λ (l : List Value). reverse (take n l)) (append_assoc (reverse vs) rest st)
    ∙ ap (λ k. reverse (take k (reverse vs ++ (rest ++ st)))) (e ∙ sym (length-reverse vs))
    ∙ ap reverse (take-append_seam (reverse vs) (rest ++ st)) ∙ reverse-reverse vs

args_left : (n : ℕ) (vs rest st : List Value) → n ≡ length vs → drop n ((reverse vs ++ rest) ++ st) ≡ rest ++ st
args_left n vs rest st e =
    ap (drop n) (append_assoc (reverse vs) rest st)
    ∙ ap (λ k. drop k (reverse vs ++ (rest ++ st))) (e ∙ sym (length-reverse vs))
    ∙ drop-append_seam (reverse vs) (rest ++ st)

module _ (w : World) (here : Here) (zero_value : Value) (call : Calls) (code : List Instruction) where
  abbrev machine : Conf → Act (After Conf Value)
  machine = step w here zero_value call code

  abbrev pub Goes_to : Conf → State → Ran (After Conf Value) → Type 0
  Goes_to = Leads machine

  -- one instruction
  pub one : (i : Instruction) (c : Conf) (s : State) → slice_get code c.at ≡ Some i → Goes_to c s ((obey w here zero_value call i c.at c.stack c.locals).does s)
  one i c s h = subst (λ o. Goes_to c s ((obey_at w here zero_value call o c).does s)) h (lead_step machine c s)

  -- one instruction that goes on, and what comes then
  pub one_then : (i : Instruction) (c c' : Conf) (s t : State) (r : Ran (After Conf Value)) → slice_get code c.at ≡ Some i
      → (obey w here zero_value call i c.at c.stack c.locals).does s ≡ Goes (On c') t → Goes_to c' t r → Goes_to c s r
  one_then i c c' s t r h e g = lead_trans machine c c' s t r (subst (Goes_to c s) e (one i c s h)) g

  -- a piece of code, where these operands are on top: it takes them, and puts the value of the act there
  pub record Puts (taken : List Value) (m : Evals) (lay : Lays) : Type 0 where
    pub by : (a : ℕ) (st : List Value) (fr : Frame) (s : State) → Sits code a (lay a)
        → Goes_to (conf a (taken ++ st) fr) s (follow ((m fr).does s) (λ v t. Goes (On (conf (a + length (lay a)) (v ∷ st) fr)) t))

  -- one instruction does the act
  pub puts_one : (taken : List Value) (m : Evals) (i : Instruction)
      → ((a : ℕ) (st : List Value) (fr : Frame) (s : State) → (obey w here zero_value call i a (taken ++ st) fr).does s ≡ (push (m fr) a st fr).does s)
      → Puts taken m (just i)
  puts_one taken m i is = record { by = λ a st fr s h. subst (Goes_to (conf a (taken ++ st) fr) s) (is a st fr s) (one i (conf a (taken ++ st) fr) s h.0) }

  -- a value is put above the operands, and the piece after it takes them all
  pub puts_then : (taken : List Value) (m : Evals) (k : Value → Evals) (f g : Lays) → Puts [] m f → ((x : Value) → Puts (x ∷ taken) (k x) g)
      → Puts taken (λ fr. m fr >>= λ x. k x fr) (f then g)
  puts_then taken m k f g first rest = record {
    by = λ a st fr s h.
        let b = a + length (f a) in
        subst (λ (n : ℕ). Goes_to (conf a (taken ++ st) fr) s (follow (follow ((m fr).does s) (λ x. (k x fr).does)) (λ v t. Goes (On (conf n (v ∷ st) fr)) t))) (then_length a (f a) (g b))
        (lead_bind machine (conf a (taken ++ st) fr) s ((m fr).does s) (λ v. conf b (v ∷ (taken ++ st)) fr) (λ x. (k x fr).does) (λ v t. Goes (On (conf (b + length (g b)) (v ∷ st) fr)) t)
        (first.by a (taken ++ st) fr s (sits_front code a (f a) (g b) h))
        (λ x t _. (rest x).by b st fr t (sits_back code a (f a) (g b) h)));
  }

  -- in the place of a piece one that does what it does from equal operands
  pub puts_same : (taken taken' : List Value) (m m' : Evals) (f f' : Lays) → taken ≡ taken' → ((fr : Frame) (s : State) → (m fr).does s ≡ (m' fr).does s) → ((a : ℕ) → f a ≡ f' a) → Puts taken m f → Puts taken' m' f'
  puts_same taken taken' m m' f f' e same lays p = subst (λ z. Puts z m' f') e (record {
    by = λ a st fr s h.
        subst (λ (l : List Instruction). Goes_to (conf a (taken ++ st) fr) s (follow ((m' fr).does s) (λ v t. Goes (On (conf (a + length l) (v ∷ st) fr)) t))) (lays a)
        (subst (λ (r : Ran Value). Goes_to (conf a (taken ++ st) fr) s (follow r (λ v t. Goes (On (conf (a + length (f a)) (v ∷ st) fr)) t))) (same fr s)
        (p.by a st fr s (subst (Sits code a) (sym (lays a)) h)));
  })

  -- the instruction that decides
  pub decides : {A : Type 0} (x : Value) (y z : Act A) (b m : ℕ) (st : List Value) (fr : Frame) (t : State) (l : A → State → Ran (After Conf Value)) → slice_get code b ≡ Some (ops.Unless m)
      → Goes_to (conf (b + 1) st fr) t (follow (y.does t) l) → Goes_to (conf m st fr) t (follow (z.does t) l)
      → Goes_to (conf b (x ∷ st) fr) t (follow ((if is_true x then y else z).does t) l)
  decides x y z b m st fr t l h f g = by (is_true x) refl where
    by : (c : Bool) → is_true x ≡ c → Goes_to (conf b (x ∷ st) fr) t (follow ((if c then y else z).does t) l)
    by true e = one_then (ops.Unless m) (conf b (x ∷ st) fr) (conf (b + 1) st fr) t t _ h (ap (λ (d : Bool). (if d then on (b + 1) st fr else on m st fr).does t) e) f
    by false e = one_then (ops.Unless m) (conf b (x ∷ st) fr) (conf m st fr) t t _ h (ap (λ (d : Bool). (if d then on (b + 1) st fr else on m st fr).does t) e) g

  -- `and`, after its left side
  pub puts_and : (x : Value) (m : Evals) (g : Lays) → Puts [] m g → Puts (x ∷ []) (λ fr. if is_true x then m fr else pure (Boolean false)) (lay_and g)
  puts_and x m g p = record {
    by = λ b st fr s h.
        let c = b + 1 + length (g (b + 1)) in
        let tail : List Instruction = ops.Jump (c + 2) ∷ ops.Push (constants.Boolean false) ∷ [] in
        let back : Sits code c tail = sits_back code (b + 1) (g (b + 1)) tail h.1 in
        let e : c + 2 ≡ b + length (lay_and g b) = simp length-append (omega arith) in
        let n : c + 1 + 1 ≡ c + 2 = omega arith in
        subst (λ (k : ℕ). Goes_to (conf b (x ∷ st) fr) s (follow ((if is_true x then m fr else pure (Boolean false)).does s) (λ v t. Goes (On (conf k (v ∷ st) fr)) t))) e
        (decides x (m fr) (pure (Boolean false)) b (c + 1) st fr s (λ v t. Goes (On (conf (c + 2) (v ∷ st) fr)) t) h.0
        (lead_on machine (conf (b + 1) st fr) s ((m fr).does s) (λ v. conf c (v ∷ st) fr) (λ v t. Goes (On (conf (c + 2) (v ∷ st) fr)) t)
        (p.by (b + 1) st fr s (sits_front code (b + 1) (g (b + 1)) tail h.1))
        (λ v t _. one (ops.Jump (c + 2)) (conf c (v ∷ st) fr) t back.0))
        (subst (λ (k : ℕ). Goes_to (conf (c + 1) st fr) s (Goes (On (conf k (Boolean false ∷ st) fr)) s)) n (one (ops.Push (constants.Boolean false)) (conf (c + 1) st fr) s back.1.0)));
  }

  -- `or`, after its left side
  pub puts_or : (x : Value) (m : Evals) (g : Lays) → Puts [] m g → Puts (x ∷ []) (λ fr. if is_true x then pure (Boolean true) else m fr) (lay_or g)
  puts_or x m g p = record {
    by = λ b st fr s h.
        let end = b + 3 + length (g (b + 3)) in
        let e : end ≡ b + length (lay_or g b) = omega arith in
        let n : b + 1 + 1 + 1 ≡ b + 3 = omega arith in
        subst (λ (k : ℕ). Goes_to (conf b (x ∷ st) fr) s (follow ((if is_true x then pure (Boolean true) else m fr).does s) (λ v t. Goes (On (conf k (v ∷ st) fr)) t))) e
        (decides x (pure (Boolean true)) (m fr) b (b + 3) st fr s (λ v t. Goes (On (conf end (v ∷ st) fr)) t) h.0
        (one_then (ops.Push (constants.Boolean true)) (conf (b + 1) st fr) (conf (b + 1 + 1) (Boolean true ∷ st) fr) s s _ h.1.0 refl
        (one (ops.Jump end) (conf (b + 1 + 1) (Boolean true ∷ st) fr) s h.1.1.0))
        (p.by (b + 3) st fr s (subst (λ k. Sits code k (g (b + 3))) n h.1.1.1)));
  }

  -- ---- several values

  then_assoc : (f g k : Lays) (a : ℕ) → (f then (g then k)) a ≡ ((f then g) then k) a
  then_assoc f g k a =
      let b = a + length (f a) in
      ap (λ n. f a ++ (g b ++ k n)) (then_length a (f a) (g b)) ∙ sym (append_assoc (f a) (g b) (k (a + length (f a ++ g b))))

  then_first : (a : ℕ) (g : Lays) → g a ≡ (nothing then g) a
  then_first a g = let e : a ≡ a + 0 = omega arith in ap g e

  each_assoc : {B : Type 0} (r : Ran Value) (n : State → Ran (List Value)) (k : List Value → State → Ran B)
      → follow r (λ x t. follow (n t) (λ vs. k (x ∷ vs))) ≡ follow (follow r (λ x t. follow (n t) (λ vs u. Goes (x ∷ vs) u))) k
  each_assoc (Goes x t) n k = sym (follow_assoc (n t) (λ vs u. Goes (x ∷ vs) u) k)
  each_assoc (Ends c t) n k = refl

  abbrev pub EachPuts : List Evals → List Lays → Type 0
  EachPuts [] [] = Unit {0}
  EachPuts (m ∷ ms) (f ∷ fs) = Puts [] m f × EachPuts ms fs
  EachPuts [] (f ∷ fs) = ⊥
  EachPuts (m ∷ ms) [] = ⊥

  -- several values are put one above the other, and the piece after them takes them all
  pub puts_each : (ms : List Evals) (fs : List Lays) → EachPuts ms fs → (taken : List Value) (k : List Value → Evals) (g : Lays)
      → ((vs : List Value) → length fs ≡ length vs → Puts (reverse vs ++ taken) (k vs) g) → Puts taken (λ fr. each_of ms fr >>= λ vs. k vs fr) (lay_each fs then g)
  puts_each [] [] ps taken k g h = puts_same taken taken (k []) (λ fr. each_of [] fr >>= λ vs. k vs fr) g (nothing then g) refl (λ fr s. refl) (λ a. then_first a g) (h [] refl)
  puts_each (m ∷ ms) (f ∷ fs) ps taken k g h =
      puts_same taken taken (λ fr. m fr >>= λ x. (each_of ms fr >>= λ vs. k (x ∷ vs) fr)) (λ fr. each_of (m ∷ ms) fr >>= λ vs. k vs fr) (f then (lay_each fs then g)) ((f then lay_each fs) then g) refl
      (λ fr s. each_assoc ((m fr).does s) (each_of ms fr).does (λ vs. (k vs fr).does))
      (then_assoc f (lay_each fs) g)
      (puts_then taken m (λ x fr. each_of ms fr >>= λ vs. k (x ∷ vs) fr) f (lay_each fs then g) ps.0
      (λ x. puts_each ms fs ps.1 (x ∷ taken) (λ vs. k (x ∷ vs)) g
      (λ vs n. puts_same (reverse (x ∷ vs) ++ taken) (reverse vs ++ x ∷ taken) (k (x ∷ vs)) (k (x ∷ vs)) g g (one_above x vs taken) (λ fr s. refl) (λ a. refl) (h (x ∷ vs) (ap suc n)))))
  puts_each [] (f ∷ fs) ps taken k g h = absurd ps
  puts_each (m ∷ ms) [] ps taken k g h = absurd ps

  -- ---- calls

  -- a call of a receiver with so many arguments
  pub puts_call : (f : Value → List Value → Act Value) (n : ℕ) (i : Instruction)
      → ((a : ℕ) (st : List Value) (fr : Frame) (s : State) → (obey w here zero_value call i a st fr).does s ≡ (push (f (top (drop n st)) (arguments n st)) a (below (drop n st)) fr).does s)
      → (on : Value) (vs : List Value) → n ≡ length vs → Puts (reverse vs ++ on ∷ []) (λ fr. f on vs) (just i)
  puts_call f n i is on vs e = puts_one (reverse vs ++ on ∷ []) (λ fr. f on vs) i (λ a st fr s.
      is a ((reverse vs ++ on ∷ []) ++ st) fr s
      ∙ ap (λ (args : List Value). (push (f (top (drop n ((reverse vs ++ on ∷ []) ++ st))) args) a (below (drop n ((reverse vs ++ on ∷ []) ++ st))) fr).does s) (args_taken n vs (on ∷ []) st e)
      ∙ ap (λ (left : List Value). (push (f (top left) vs) a (below left) fr).does s) (args_left n vs (on ∷ []) st e))

  -- a call on self
  pub puts_self_call : (f : List Value → Act Value) (n : ℕ) (i : Instruction)
      → ((a : ℕ) (st : List Value) (fr : Frame) (s : State) → (obey w here zero_value call i a st fr).does s ≡ (push (f (arguments n st)) a (drop n st) fr).does s)
      → (vs : List Value) → n ≡ length vs → Puts (reverse vs ++ []) (λ fr. f vs) (just i)
  puts_self_call f n i is vs e = puts_one (reverse vs ++ []) (λ fr. f vs) i (λ a st fr s.
      is a ((reverse vs ++ []) ++ st) fr s
      ∙ ap (λ (args : List Value). (push (f args) a (drop n ((reverse vs ++ []) ++ st)) fr).does s) (args_taken n vs [] st e)
      ∙ ap (λ (left : List Value). (push (f vs) a left fr).does s) (args_left n vs [] st e))
