-- The law of a loop: turn after turn, each of which takes a token or is the last.
use Rattle.std.proofs.Common.{◌≡◌, ℕ, zero, suc, ◌<◌, List, [], ◌++◌, length, Ok, Err, sym, ◌∙◌, ap, subst, append_assoc, length-append, arith}
use Rattle.std.proofs.lemmas.List.{append-nil}
use Rattle.som_parse.specs.declared.cursor.Stop.{Stop}
use Rattle.som_parse.specs.declared.cursor.Turn.{Turn}
use Rattle.som_parse.specs.declared.cursor.Turn.TheVariants.{More, Done}
use Rattle.som_parse.specs.declared.token.Token.{Token}
use Rattle.som_parse.specs.Languages.{Lang}
use Rattle.som_parse.specs.Readers.{Outcome, Parser, and_then, go, turns, repeat}
use Rattle.som_parse.specs.Tokens.{head}
use Rattle.som_parse.proofs.Laws.{Lawful, Member, Met, Took, Shares, head_append, shares_append}

-- turn after turn, from the value a
pub data Runs {A B : Type 0} (T : A → Lang (Turn A B)) : A → List Token → B → Type 0 where
  last_turn : {a : A} {u : List Token} {b : B} → T a u (Done b) → Runs T a u b
  next_turn : {a c : A} {u v : List Token} {b : B} → T a u (More c) → Runs T c v b → Runs T a (u ++ v) b

abbrev pub IsLong : List Token → Type 0
IsLong u = 0 < length u

module _ {A B : Type 0} (T : A → Lang (Turn A B)) (turn : A → Parser (Turn A B)) (law : (a : A) → Lawful (T a) (turn a)) (long : (a c : A) (u : List Token) → T a u (More c) → IsLong u) (some : (a : A) → Member (Runs T a)) where
  record TookTurns (a : A) (ts : List Token) (b : B) (r : List Token) : Type 0 where
    taken : List Token
    splits : ts ≡ taken ++ r
    reads : Runs T a taken b
    local : (z : List Token) (m : ℕ) → head z ≡ head r → length (taken ++ z) < m → turns turn m a (taken ++ z) ≡ Ok (b, z)

  record StoppedTurns (a : A) (ts : List Token) (f : Stop) (r : List Token) : Type 0 where
    taken : List Token
    splits : ts ≡ taken ++ r
    more : List Token
    value : B
    begins : Runs T a (taken ++ more) value
    shares : Shares f more r
    local : (z : List Token) (m : ℕ) → head z ≡ head r → length (taken ++ z) < m → turns turn m a (taken ++ z) ≡ Err (f, z)

  abbrev TurnsMet : A → List Token → Outcome B → Type 0
  TurnsMet a ts (Ok x) = TookTurns a ts x.0 x.1
  TurnsMet a ts (Err x) = StoppedTurns a ts x.0 x.1

  stepping : (a c : A) (w v : List Token) (o : Outcome B) (k : ℕ) → turn a w ≡ Ok (More c, v) → length v < length w → length w < k
      → ((j : ℕ) → length v < j → turns turn j c v ≡ o) → turns turn k a w ≡ o
  stepping a c w v o zero e shorter fuel again = absurd (omega arith)
  stepping a c w v o (suc k) e shorter fuel again = ap (λ y. and_then y (go (turns turn k))) e ∙ again k (omega arith)

  more_turns : (a c : A) (ts r : List Token) → Took (T a) (turn a) ts (More c) r → (o : Outcome B) → TurnsMet c r o → TurnsMet a ts o
  more_turns a c ts r m (Ok x) n = record {
    taken = m.taken ++ n.taken;
    splits = m.splits ∙ ap (λ y. m.taken ++ y) n.splits ∙ sym (append_assoc m.taken n.taken x.1);
    reads = next_turn m.reads n.reads;
    local = λ z k h fuel.
        let e : turn a ((m.taken ++ n.taken) ++ z) ≡ Ok (More c, n.taken ++ z) = ap (turn a) (append_assoc m.taken n.taken z) ∙ m.local (n.taken ++ z) (head_append n.taken z x.1 h ∙ ap head (sym n.splits)) in
        let shorter : length (n.taken ++ z) < length ((m.taken ++ n.taken) ++ z) = simp (length-append) (omega (arith, long a c m.taken m.reads)) in
        stepping a c ((m.taken ++ n.taken) ++ z) (n.taken ++ z) (Ok (x.0, z)) k e shorter fuel (λ j fits. n.local z j h fits);
  }
  more_turns a c ts r m (Err x) n = record {
    taken = m.taken ++ n.taken;
    splits = m.splits ∙ ap (λ y. m.taken ++ y) n.splits ∙ sym (append_assoc m.taken n.taken x.1);
    more = n.more;
    value = n.value;
    begins = subst (λ y. Runs T a y n.value) (sym (append_assoc m.taken n.taken n.more)) (next_turn m.reads n.begins);
    shares = n.shares;
    local = λ z k h fuel.
        let e : turn a ((m.taken ++ n.taken) ++ z) ≡ Ok (More c, n.taken ++ z) = ap (turn a) (append_assoc m.taken n.taken z) ∙ m.local (n.taken ++ z) (head_append n.taken z x.1 h ∙ ap head (sym n.splits)) in
        let shorter : length (n.taken ++ z) < length ((m.taken ++ n.taken) ++ z) = simp (length-append) (omega (arith, long a c m.taken m.reads)) in
        stepping a c ((m.taken ++ n.taken) ++ z) (n.taken ++ z) (Err (x.0, z)) k e shorter fuel (λ j fits. n.local z j h fits);
  }

  -- the turn is the last, or stops
  ended : (a : A) (w : List Token) (o : Outcome B) (k : ℕ) → length w < k → ((again : A → Parser B) → and_then (turn a w) (go again) ≡ o) → turns turn k a w ≡ o
  ended a w o zero fuel same = absurd (omega arith)
  ended a w o (suc k) fuel same = same (turns turn k)

  -- the tokens that complete what a turn begins
  abbrev rest_of : Turn A B → List Token
  rest_of (More c) = (some c).tokens
  rest_of (Done b) = []

  finished : (a : A) (u : List Token) (x : Turn A B) → T a u x → (y : B) × Runs T a (u ++ rest_of x) y
  finished a u (More c) first = ((some c).value, next_turn first (some c).reads)
  finished a u (Done d) first = (d, subst (λ y. Runs T a y d) (sym (append-nil u)) (last_turn first))

  turn_at : (n : ℕ) → ((c : A) (r : List Token) → length r < n → TurnsMet c r (turns turn n c r)) → (a : A) (ts : List Token) → length ts < suc n → (o : Outcome (Turn A B)) → Met (T a) (turn a) ts o → TurnsMet a ts (and_then o (go (turns turn n)))
  turn_at n again a ts h (Ok (More c, r)) m =
      let shorter : length r < n = omega (arith, ap length m.splits ∙ length-append m.taken r, long a c m.taken m.reads) in
      more_turns a c ts r m (turns turn n c r) (again c r shorter)
  turn_at n again a ts h (Ok (Done b, r)) m = record {
    taken = m.taken;
    splits = m.splits;
    reads = last_turn m.reads;
    local = λ z k g fuel. ended a (m.taken ++ z) (Ok (b, z)) k fuel (λ onwards. ap (λ o. and_then o (go onwards)) (m.local z g));
  }
  turn_at n again a ts h (Err x) m =
      let whole = finished a (m.taken ++ m.more) m.value m.begins in
      record {
        taken = m.taken;
        splits = m.splits;
        more = m.more ++ rest_of m.value;
        value = whole.0;
        begins = subst (λ y. Runs T a y whole.0) (append_assoc m.taken m.more (rest_of m.value)) whole.1;
        shares = shares_append x.0 m.more (rest_of m.value) x.1 m.shares;
        local = λ z k g fuel. ended a (m.taken ++ z) (Err (x.0, z)) k fuel (λ onwards. ap (λ o. and_then o (go onwards)) (m.local z g));
      }

  turns_at : (n : ℕ) (a : A) (ts : List Token) → length ts < n → TurnsMet a ts (turns turn n a ts)
  turns_at zero a ts h = absurd (omega arith)
  turns_at (suc n) a ts h = turn_at n (turns_at n) a ts h (turn a ts) ((law a).at ts)

  from_turns : (a : A) (ts : List Token) (o : Outcome B) → TurnsMet a ts o → Met (Runs T a) (repeat turn a) ts o
  unfolding repeat
  from_turns a ts (Ok x) m = record { taken = m.taken; splits = m.splits; reads = m.reads; local = λ z h. m.local z (suc (length (m.taken ++ z))) h (omega arith) }
  from_turns a ts (Err x) m = record { taken = m.taken; splits = m.splits; more = m.more; value = m.value; begins = m.begins; shares = m.shares; local = λ z h. m.local z (suc (length (m.taken ++ z))) h (omega arith) }

  pub repeat_law : (a : A) → Lawful (Runs T a) (repeat turn a)
  unfolding repeat
  repeat_law a = record { at = λ ts. from_turns a ts (turns turn (suc (length ts)) a ts) (turns_at (suc (length ts)) a ts (omega arith)); some = some a }

-- what the turns so far read, and what the others do
module _ {A B : Type 0} (T : A → Lang (Turn A B)) (D : Lang A) (W : Lang B)
    (onwards : (u v : List Token) (a c : A) → D u a → T a v (More c) → D (u ++ v) c)
    (ending : (u v : List Token) (a : A) (b : B) → D u a → T a v (Done b) → W (u ++ v) b) where
  pub grown : {a : A} {v : List Token} {b : B} (u : List Token) → D u a → Runs T a v b → W (u ++ v) b
  grown {a = a} {v = v} {b = b} u d (last_turn t) = ending u v a b d t
  grown {a = a} {b = b} u d (next_turn {c = c} {u = x} {v = y} t run) = subst (λ w. W w b) (append_assoc u x y) (grown (u ++ x) (onwards u x a c d t) run)
