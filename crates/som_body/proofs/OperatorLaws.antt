-- The laws of tables, of operators, which push what was read one level down, and of a level too many.
use Rattle.std.proofs.Common.{◌≡◌, ℕ, ◌+◌, List, [], ◌∷◌, ◌++◌, Bool, true, false, cond, Option, Some, None, Ok, Err, refl, sym, ◌∙◌, ap}
use Rattle.std.specs.Prelude.{nat_le}
use Rattle.std.proofs.lemmas.List.{append-nil}
use Rattle.som_parse.specs.Languages.{Lang}
use Rattle.som_parse.specs.Readers.{Outcome, Parser, ◌>>=◌, repeat}
use Rattle.som_parse.specs.Tokens.{head, is_sign, is_key}
use Rattle.som_parse.specs.declared.cursor.Stop.TheVariants.{Syntax, Nesting}
use Rattle.som_parse.specs.declared.cursor.Turn.{Turn}
use Rattle.som_parse.specs.declared.cursor.Turn.TheVariants.{More, Done}
use Rattle.som_parse.specs.declared.token.Key.{Key}
use Rattle.som_parse.specs.declared.token.Sign.{Sign}
use Rattle.som_parse.specs.declared.token.Token.{Token}
use Rattle.som_parse.specs.declared.token.Token.TheVariants as token
use Rattle.som_parse.proofs.Laws.{Lawful, Member, Met, head_append, wider, bind_law}
use Rattle.som_parse.proofs.Repetition.{grown}
use Rattle.som_parse.proofs.Steps.{IsWordOf, is_sign_true, is_key_true}
use Rattle.som_parse.proofs.Turns.{Runs, last_turn, IsLong, repeat_law}
use Rattle.som_body.specs.Reading.{found, by_found, by_table, pushed, operator, operator_by, too_deep}

-- ---- tables

module _ {A B : Type 0} (W : Lang B) (f : Token → Option A) (p : A → Parser B) (q : Parser B) where
  told : (t : Token) (a : A) (ts : List Token) → f t ≡ Some a → (o : Outcome B) → Met (λ u. W (t ∷ u)) (p a) ts o → Met W (by_table f p q) (t ∷ ts) o
  told t a ts e (Ok x) m = record { taken = t ∷ m.taken; splits = ap (λ y. t ∷ y) m.splits; reads = m.reads; local = λ z h. rw e (m.local z h) }
  told t a ts e (Err x) m = record { taken = t ∷ m.taken; splits = ap (λ y. t ∷ y) m.splits; more = m.more; value = m.value; begins = m.begins; shares = m.shares; local = λ z h. rw e (m.local z h) }

  untold : (ts : List Token) → found f (head ts) ≡ None → (o : Outcome B) → Met W q ts o → Met W (by_table f p q) ts o
  untold ts e (Ok x) m = record { taken = m.taken; splits = m.splits; reads = m.reads; local = λ z h. rw (ap (found f) (head_append m.taken z x.1 h ∙ ap head (sym m.splits)) ∙ e) (m.local z h) }
  untold ts e (Err x) m = record {
    taken = m.taken;
    splits = m.splits;
    more = m.more;
    value = m.value;
    begins = m.begins;
    shares = m.shares;
    local = λ z h. rw (ap (found f) (head_append m.taken z x.1 h ∙ ap head (sym m.splits)) ∙ e) (m.local z h);
  }

  module _ (first : (t : Token) (a : A) → f t ≡ Some a → Lawful (λ u. W (t ∷ u)) (p a)) (second : Lawful W q) where
    table_by : (t : Token) (ts : List Token) (o : Option A) → f t ≡ o → Met W (by_table f p q) (t ∷ ts) (by_found o p q (t ∷ ts))
    table_by t ts (Some a) e = told t a ts e (p a ts) ((first t a e).at ts)
    table_by t ts None e = untold (t ∷ ts) e (q (t ∷ ts)) (second.at (t ∷ ts))

    table_at : (ts : List Token) → Met W (by_table f p q) ts (by_table f p q ts)
    table_at [] = untold [] refl (q []) (second.at [])
    table_at (t ∷ ts) = table_by t ts (f t) refl

    pub by_table_law : Lawful W (by_table f p q)
    by_table_law = record { at = table_at; some = second.some }

-- ---- operators

module _ {B : Type 0} (W : Lang B) (ops : Token → Option ℕ) (d h : ℕ) (p : ℕ → Parser B) (q : Parser B) where
  pushes : (t : Token) (op : ℕ) (ts : List Token) → ops t ≡ Some op → nat_le (h + 1) d ≡ true → (o : Outcome B) → Met (λ u. W (t ∷ u)) (p op) ts o → Met W (operator ops d h p q) (t ∷ ts) o
  pushes t op ts e fits (Ok x) m = record { taken = t ∷ m.taken; splits = ap (λ y. t ∷ y) m.splits; reads = m.reads; local = λ z g. rw (e, fits) (m.local z g) }
  pushes t op ts e fits (Err x) m = record { taken = t ∷ m.taken; splits = ap (λ y. t ∷ y) m.splits; more = m.more; value = m.value; begins = m.begins; shares = m.shares; local = λ z g. rw (e, fits) (m.local z g) }

  too_tall : (t : Token) (op : ℕ) (ts : List Token) → ops t ≡ Some op → nat_le (h + 1) d ≡ false → Member (λ u. W (t ∷ u)) → Met W (operator ops d h p q) (t ∷ ts) (Err (Nesting, t ∷ ts))
  too_tall t op ts e tall s = record {
    taken = [];
    splits = refl;
    more = t ∷ s.tokens;
    value = s.value;
    begins = s.reads;
    shares = refl;
    local = λ z g. rw (ap (found ops) g ∙ e, tall) refl;
  }

  no_operator : (ts : List Token) → found ops (head ts) ≡ None → (o : Outcome B) → Met W q ts o → Met W (operator ops d h p q) ts o
  no_operator ts e (Ok x) m = record { taken = m.taken; splits = m.splits; reads = m.reads; local = λ z g. rw (ap (found ops) (head_append m.taken z x.1 g ∙ ap head (sym m.splits)) ∙ e) (m.local z g) }
  no_operator ts e (Err x) m = record {
    taken = m.taken;
    splits = m.splits;
    more = m.more;
    value = m.value;
    begins = m.begins;
    shares = m.shares;
    local = λ z g. rw (ap (found ops) (head_append m.taken z x.1 g ∙ ap head (sym m.splits)) ∙ e) (m.local z g);
  }

  module _ (first : (t : Token) (op : ℕ) → ops t ≡ Some op → Lawful (λ u. W (t ∷ u)) (p op)) (second : Lawful W q) where
    level_by : (t : Token) (op : ℕ) (ts : List Token) → ops t ≡ Some op → (b : Bool) → nat_le (h + 1) d ≡ b → Met W (operator ops d h p q) (t ∷ ts) (cond b (p op ts) (Err (Nesting, t ∷ ts)))
    level_by t op ts e true fits = pushes t op ts e fits (p op ts) ((first t op e).at ts)
    level_by t op ts e false tall = too_tall t op ts e tall (first t op e).some

    operator_case : (t : Token) (ts : List Token) (o : Option ℕ) → ops t ≡ o → Met W (operator ops d h p q) (t ∷ ts) (operator_by o d h p q (t ∷ ts))
    operator_case t ts (Some op) e = level_by t op ts e (nat_le (h + 1) d) refl
    operator_case t ts None e = no_operator (t ∷ ts) e (q (t ∷ ts)) (second.at (t ∷ ts))

    operator_at : (ts : List Token) → Met W (operator ops d h p q) ts (operator ops d h p q ts)
    operator_at [] = no_operator [] refl (q []) (second.at [])
    operator_at (t ∷ ts) = operator_case t ts (ops t) refl

    pub operator_law : Lawful W (operator ops d h p q)
    operator_law = record { at = operator_at; some = second.some }

-- ---- one operator, by a test

module _ {B : Type 0} (W : Lang B) (test : Option Token → Bool) (d h : ℕ) (p q : Parser B) where
  passes : (t : Token) (ts : List Token) → test (Some t) ≡ true → nat_le (h + 1) d ≡ true → (o : Outcome B) → Met (λ u. W (t ∷ u)) p ts o → Met W (pushed test d h p q) (t ∷ ts) o
  passes t ts e fits (Ok x) m = record { taken = t ∷ m.taken; splits = ap (λ y. t ∷ y) m.splits; reads = m.reads; local = λ z g. rw (e, fits) (m.local z g) }
  passes t ts e fits (Err x) m = record { taken = t ∷ m.taken; splits = ap (λ y. t ∷ y) m.splits; more = m.more; value = m.value; begins = m.begins; shares = m.shares; local = λ z g. rw (e, fits) (m.local z g) }

  passes_not : (t : Token) (ts : List Token) → test (Some t) ≡ true → nat_le (h + 1) d ≡ false → Member (λ u. W (t ∷ u)) → Met W (pushed test d h p q) (t ∷ ts) (Err (Nesting, t ∷ ts))
  passes_not t ts e tall s = record {
    taken = [];
    splits = refl;
    more = t ∷ s.tokens;
    value = s.value;
    begins = s.reads;
    shares = refl;
    local = λ z g. rw (ap test g ∙ e, tall) refl;
  }

  stays : (ts : List Token) → test (head ts) ≡ false → (o : Outcome B) → Met W q ts o → Met W (pushed test d h p q) ts o
  stays ts e (Ok x) m = record { taken = m.taken; splits = m.splits; reads = m.reads; local = λ z g. rw (ap test (head_append m.taken z x.1 g ∙ ap head (sym m.splits)) ∙ e) (m.local z g) }
  stays ts e (Err x) m = record {
    taken = m.taken;
    splits = m.splits;
    more = m.more;
    value = m.value;
    begins = m.begins;
    shares = m.shares;
    local = λ z g. rw (ap test (head_append m.taken z x.1 g ∙ ap head (sym m.splits)) ∙ e) (m.local z g);
  }

  module _ (none : test None ≡ false) (first : (t : Token) → test (Some t) ≡ true → Lawful (λ u. W (t ∷ u)) p) (second : Lawful W q) where
    pushed_level : (t : Token) (ts : List Token) → test (Some t) ≡ true → (b : Bool) → nat_le (h + 1) d ≡ b → Met W (pushed test d h p q) (t ∷ ts) (cond b (p ts) (Err (Nesting, t ∷ ts)))
    pushed_level t ts e true fits = passes t ts e fits (p ts) ((first t e).at ts)
    pushed_level t ts e false tall = passes_not t ts e tall (first t e).some

    pushed_case : (t : Token) (ts : List Token) (b : Bool) → test (Some t) ≡ b → Met W (pushed test d h p q) (t ∷ ts) (cond b (cond (nat_le (h + 1) d) (p ts) (Err (Nesting, t ∷ ts))) (q (t ∷ ts)))
    pushed_case t ts true e = pushed_level t ts e (nat_le (h + 1) d) refl
    pushed_case t ts false e = stays (t ∷ ts) e (q (t ∷ ts)) (second.at (t ∷ ts))

    pushed_end : (b : Bool) → test None ≡ b → b ≡ false → Met W (pushed test d h p q) [] (cond b (cond (nat_le (h + 1) d) (p []) (Err (Nesting, []))) (q []))
    pushed_end false e same = stays [] e (q []) (second.at [])
    pushed_end true e same = cc

    pushed_at : (ts : List Token) → Met W (pushed test d h p q) ts (pushed test d h p q ts)
    pushed_at [] = pushed_end (test None) refl none
    pushed_at (t ∷ ts) = pushed_case t ts (test (Some t)) refl

    pushed_law : Lawful W (pushed test d h p q)
    pushed_law = record { at = pushed_at; some = second.some }

module _ {B : Type 0} (W : Lang B) (d h : ℕ) (p q : Parser B) where
  sign_there : (s : Sign) → Lawful (λ u. W (token.Mark s ∷ u)) p → (t : Token) → t ≡ token.Mark s → Lawful (λ u. W (t ∷ u)) p
  sign_there s law t e = rw e law

  pub pushed_sign : (s : Sign) → Lawful (λ u. W (token.Mark s ∷ u)) p → Lawful W q → Lawful W (pushed (is_sign s) d h p q)
  pushed_sign s first second = pushed_law W (is_sign s) d h p q refl (λ t e. sign_there s first t (is_sign_true s t e)) second

  key_there : (k : Key) → ((x : ℕ) → Lawful (λ u. W (token.Word k x ∷ u)) p) → (t : Token) → IsWordOf k t → Lawful (λ u. W (t ∷ u)) p
  key_there k law t e = rw (e.is) (law e.place)

  pub pushed_key : (k : Key) → ((x : ℕ) → Lawful (λ u. W (token.Word k x ∷ u)) p) → Lawful W q → Lawful W (pushed (is_key k) d h p q)
  pushed_key k first second = pushed_law W (is_key k) d h p q refl (λ t e. key_there k first t (is_key_true k t e)) second

-- ---- no level is left

module _ {A : Type 0} (L : Lang A) (test : Option Token → Bool) (none : test None ≡ false) (starts : (t : Token) → test (Some t) ≡ true → Member (λ u. L (t ∷ u))) (some : Member L) where
  deep_by : (t : Token) (ts : List Token) (b : Bool) → test (Some t) ≡ b → Met L (too_deep test) (t ∷ ts) (cond b (Err (Nesting, t ∷ ts)) (Err (Syntax, t ∷ ts)))
  unfolding too_deep
  deep_by t ts true e =
      let s = starts t e in
      record { taken = []; splits = refl; more = t ∷ s.tokens; value = s.value; begins = s.reads; shares = refl; local = λ z g. rw (ap test g ∙ e) refl }
  deep_by t ts false e = record { taken = []; splits = refl; more = some.tokens; value = some.value; begins = some.reads; shares = tt; local = λ z g. rw (ap test g ∙ e) refl }

  deep_end : (b : Bool) → test None ≡ b → b ≡ false → Met L (too_deep test) [] (cond b (Err (Nesting, [])) (Err (Syntax, [])))
  unfolding too_deep
  deep_end false e same = record { taken = []; splits = refl; more = some.tokens; value = some.value; begins = some.reads; shares = tt; local = λ z g. rw (ap test g ∙ e) refl }
  deep_end true e same = cc

  deep_at : (ts : List Token) → Met L (too_deep test) ts (too_deep test ts)
  unfolding too_deep
  deep_at [] = deep_end (test None) refl none
  deep_at (t ∷ ts) = deep_by t ts (test (Some t)) refl

  pub too_deep_law : Lawful L (too_deep test)
  too_deep_law = record { at = deep_at; some = some }

-- ---- turn after turn

module _ {A : Type 0} (W : Lang A) (T : A → Lang (Turn A A)) (turn : A → Parser (Turn A A))
    (onwards : (u v : List Token) (a c : A) → W u a → T a v (More c) → W (u ++ v) c)
    (last : (v : List Token) (a b : A) → T a v (Done b) → (v ≡ []) × (b ≡ a))
    (stay : (a : A) → T a [] (Done a))
    (long : (a c : A) (u : List Token) → T a u (More c) → IsLong u)
    (law : (a : A) → Lawful (T a) (turn a)) where
  ends_there : (u v : List Token) (a b : A) → W u a → T a v (Done b) → W (u ++ v) b
  ends_there u v a b h t = let e = last v a b t in rw (e.0, e.1, append-nil u) h

  -- further turns on what was read
  pub turned : (u : List Token) (a : A) → W u a → Lawful (λ v. W (u ++ v)) (repeat turn a)
  turned u a h = wider (Runs T a) (λ v. W (u ++ v)) _ (λ v b run. grown T W W onwards ends_there u h run)
      (repeat_law T turn law long (λ x. record { tokens = []; value = x; reads = last_turn (stay x) }) a)

  pub chain_law : (L : Lang A) (p : Parser A) → ((u : List Token) (a : A) → L u a → W u a) → Lawful L p → Lawful W (p >>= repeat turn)
  chain_law L p base first = bind_law L W p _ first (λ u a h. turned u a (base u a h))
