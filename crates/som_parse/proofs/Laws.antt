-- What a reader of one token in hand does: what it takes is in a language, where it stops what it took begins a member, and either way it looked no further than at one token.
use Rattle.std.proofs.Common.{◌≡◌, List, [], ◌∷◌, ◌++◌, drop, Bool, true, false, cond, Option, Some, None, Ok, Err, refl, sym, ◌∙◌, ap, subst, append_assoc}
use Rattle.som_parse.specs.declared.cursor.Stop.{Stop}
use Rattle.som_parse.specs.declared.cursor.Stop.TheVariants.{Memory, Syntax, Nesting}
use Rattle.som_parse.specs.declared.token.Token.{Token}
use Rattle.som_parse.specs.Languages.{Lang}
use Rattle.som_parse.specs.Readers.{Outcome, Parser, and_then, ◌>>=◌, pure, stop, when, after}
use Rattle.som_parse.specs.Tokens.{head}

-- A reader that stops at a level too many stands at a token that still begins a member. None stops for want of memory.
abbrev pub Shares : Stop → List Token → List Token → Type 0
Shares Nesting [] r = ⊥
Shares Nesting (t ∷ w) r = head r ≡ Some t
Shares Syntax w r = Unit {0}
Shares Memory w r = ⊥

pub record Took {A : Type 0} (L : Lang A) (p : Parser A) (ts : List Token) (a : A) (r : List Token) : Type 0 where
  pub taken : List Token
  pub splits : ts ≡ taken ++ r
  pub reads : L taken a
  pub local : (z : List Token) → head z ≡ head r → p (taken ++ z) ≡ Ok (a, z)

pub record Stopped {A : Type 0} (L : Lang A) (p : Parser A) (ts : List Token) (f : Stop) (r : List Token) : Type 0 where
  pub taken : List Token
  pub splits : ts ≡ taken ++ r
  pub more : List Token
  pub value : A
  pub begins : L (taken ++ more) value
  pub shares : Shares f more r
  pub local : (z : List Token) → head z ≡ head r → p (taken ++ z) ≡ Err (f, z)

abbrev pub Met : {A : Type 0} → Lang A → Parser A → List Token → Outcome A → Type 0
Met L p ts (Ok x) = Took L p ts x.0 x.1
Met L p ts (Err x) = Stopped L p ts x.0 x.1

pub record Member {A : Type 0} (L : Lang A) : Type 0 where
  pub tokens : List Token
  pub value : A
  pub reads : L tokens value

-- the reader p reads the language L, which has a text
pub record Lawful {A : Type 0} (L : Lang A) (p : Parser A) : Type 0 where
  pub at : (ts : List Token) → Met L p ts (p ts)
  pub some : Member L

pub head_append : (u z r : List Token) → head z ≡ head r → head (u ++ z) ≡ head (u ++ r)
head_append [] z r h = h
head_append (t ∷ u) z r h = refl

pub shares_append : (f : Stop) (w v r : List Token) → Shares f w r → Shares f (w ++ v) r
shares_append Nesting [] v r h = absurd h
shares_append Nesting (t ∷ w) v r h = h
shares_append Syntax w v r h = tt
shares_append Memory w v r h = absurd h

-- a wider language
module _ {A : Type 0} (L M : Lang A) (p : Parser A) (wide : (ts : List Token) (a : A) → L ts a → M ts a) where
  wider_at : (ts : List Token) (o : Outcome A) → Met L p ts o → Met M p ts o
  wider_at ts (Ok x) m = record { taken = m.taken; splits = m.splits; reads = wide m.taken x.0 m.reads; local = m.local }
  wider_at ts (Err x) m = record { taken = m.taken; splits = m.splits; more = m.more; value = m.value; begins = wide (m.taken ++ m.more) m.value m.begins; shares = m.shares; local = m.local }

  pub wider : Lawful L p → Lawful M p
  wider law = record {
    at = λ ts. wider_at ts (p ts) (law.at ts);
    some = record { tokens = law.some.tokens; value = law.some.value; reads = wide law.some.tokens law.some.value law.some.reads };
  }

-- One after the other: W is the language of the whole, and what follows reads the rest of it.
module _ {A B : Type 0} (L : Lang A) (W : Lang B) (p : Parser A) (f : A → Parser B) where
  in_two : (ts : List Token) (a : A) (r : List Token) (m : Took L p ts a r) → (o : Outcome B) → Met (λ u. W (m.taken ++ u)) (f a) r o → Met W (p >>= f) ts o
  in_two ts a r m (Ok x) n = record {
    taken = m.taken ++ n.taken;
    splits = m.splits ∙ ap (λ y. m.taken ++ y) n.splits ∙ sym (append_assoc m.taken n.taken x.1);
    reads = n.reads;
    local = λ z h.
        let e : p ((m.taken ++ n.taken) ++ z) ≡ Ok (a, n.taken ++ z) = ap p (append_assoc m.taken n.taken z) ∙ m.local (n.taken ++ z) (head_append n.taken z x.1 h ∙ ap head (sym n.splits)) in
        ap (λ o. and_then o f) e ∙ n.local z h;
  }
  in_two ts a r m (Err x) n = record {
    taken = m.taken ++ n.taken;
    splits = m.splits ∙ ap (λ y. m.taken ++ y) n.splits ∙ sym (append_assoc m.taken n.taken x.1);
    more = n.more;
    value = n.value;
    begins = subst (λ y. W y n.value) (sym (append_assoc m.taken n.taken n.more)) n.begins;
    shares = n.shares;
    local = λ z h.
        let e : p ((m.taken ++ n.taken) ++ z) ≡ Ok (a, n.taken ++ z) = ap p (append_assoc m.taken n.taken z) ∙ m.local (n.taken ++ z) (head_append n.taken z x.1 h ∙ ap head (sym n.splits)) in
        ap (λ o. and_then o f) e ∙ n.local z h;
  }

  in_at : ((t : List Token) (a : A) → L t a → Lawful (λ u. W (t ++ u)) (f a)) → (ts : List Token) (o : Outcome A) → Met L p ts o → Met W (p >>= f) ts (and_then o f)
  in_at law ts (Ok x) m = in_two ts x.0 x.1 m (f x.0 x.1) ((law m.taken x.0 m.reads).at x.1)
  in_at law ts (Err x) m =
      let s = (law (m.taken ++ m.more) m.value m.begins).some in
      record {
        taken = m.taken;
        splits = m.splits;
        more = m.more ++ s.tokens;
        value = s.value;
        begins = subst (λ y. W y s.value) (append_assoc m.taken m.more s.tokens) s.reads;
        shares = shares_append x.0 m.more s.tokens x.1 m.shares;
        local = λ z h. ap (λ o. and_then o f) (m.local z h);
      }

  pub bind_law : Lawful L p → ((t : List Token) (a : A) → L t a → Lawful (λ u. W (t ++ u)) (f a)) → Lawful W (p >>= f)
  bind_law first law =
      let s = (law first.some.tokens first.some.value first.some.reads).some in
      record {
        at = λ ts. in_at law ts (p ts) (first.at ts);
        some = record { tokens = first.some.tokens ++ s.tokens; value = s.value; reads = s.reads };
      }

-- nothing is taken
pub pure_law : {A : Type 0} (W : Lang A) (x : A) → W [] x → Lawful W (pure x)
pure_law W x l = record {
  at = λ ts. record { taken = []; splits = refl; reads = l; local = λ z h. refl };
  some = record { tokens = []; value = x; reads = l };
}

-- a reader that stops stands before a text of each language that has one
pub stop_law : {A : Type 0} (W : Lang A) → Member W → Lawful W (stop Syntax)
stop_law W s = record {
  at = λ ts. record { taken = []; splits = refl; more = s.tokens; value = s.value; begins = s.reads; shares = tt; local = λ z h. refl };
  some = s;
}

-- a reader chosen by the token in hand
module _ {A : Type 0} (W : Lang A) (test : Option Token → Bool) (p q : Parser A) where
  chosen : (ts : List Token) (b : Bool) (r : Parser A) → test (head ts) ≡ b → ((z : List Token) → test (head z) ≡ b → when test p q z ≡ r z) → (o : Outcome A) → Met W r ts o → Met W (when test p q) ts o
  chosen ts b r e same (Ok x) m = record {
    taken = m.taken;
    splits = m.splits;
    reads = m.reads;
    local = λ z h. same (m.taken ++ z) (ap test (head_append m.taken z x.1 h ∙ ap head (sym m.splits)) ∙ e) ∙ m.local z h;
  }
  chosen ts b r e same (Err x) m = record {
    taken = m.taken;
    splits = m.splits;
    more = m.more;
    value = m.value;
    begins = m.begins;
    shares = m.shares;
    local = λ z h. same (m.taken ++ z) (ap test (head_append m.taken z x.1 h ∙ ap head (sym m.splits)) ∙ e) ∙ m.local z h;
  }

  choosing : Lawful W p → Lawful W q → (ts : List Token) (b : Bool) → test (head ts) ≡ b → Met W (when test p q) ts (cond b (p ts) (q ts))
  choosing first second ts true e = chosen ts true p e (λ z h. rw h refl) (p ts) (first.at ts)
  choosing first second ts false e = chosen ts false q e (λ z h. rw h refl) (q ts) (second.at ts)

  pub when_law : Lawful W p → Lawful W q → Lawful W (when test p q)
  when_law first second = record { at = λ ts. choosing first second ts (test (head ts)) refl; some = first.some }

-- a reader chosen by the token in hand, which it has passed
module _ {A : Type 0} (W : Lang A) (test : Option Token → Bool) (p q : Parser A) where
  passing : (t : Token) (ts : List Token) → test (Some t) ≡ true → (o : Outcome A) → Met (λ u. W (t ∷ u)) p ts o → Met W (after test p q) (t ∷ ts) o
  passing t ts e (Ok x) m = record {
    taken = t ∷ m.taken;
    splits = ap (λ y. t ∷ y) m.splits;
    reads = m.reads;
    local = λ z h. rw e (m.local z h);
  }
  passing t ts e (Err x) m = record {
    taken = t ∷ m.taken;
    splits = ap (λ y. t ∷ y) m.splits;
    more = m.more;
    value = m.value;
    begins = m.begins;
    shares = m.shares;
    local = λ z h. rw e (m.local z h);
  }

  staying : (ts : List Token) → test (head ts) ≡ false → (o : Outcome A) → Met W q ts o → Met W (after test p q) ts o
  staying ts e (Ok x) m = record {
    taken = m.taken;
    splits = m.splits;
    reads = m.reads;
    local = λ z h. rw (ap test (head_append m.taken z x.1 h ∙ ap head (sym m.splits)) ∙ e) (m.local z h);
  }
  staying ts e (Err x) m = record {
    taken = m.taken;
    splits = m.splits;
    more = m.more;
    value = m.value;
    begins = m.begins;
    shares = m.shares;
    local = λ z h. rw (ap test (head_append m.taken z x.1 h ∙ ap head (sym m.splits)) ∙ e) (m.local z h);
  }

  after_at : (none : test None ≡ false) → ((t : Token) → test (Some t) ≡ true → Lawful (λ u. W (t ∷ u)) p) → Lawful W q
      → (ts : List Token) (b : Bool) → test (head ts) ≡ b → Met W (after test p q) ts (cond b (p (drop 1 ts)) (q ts))
  after_at none first second ts false e = staying ts e (q ts) (second.at ts)
  after_at none first second [] true e = cc
  after_at none first second (t ∷ ts) true e = passing t ts e (p ts) ((first t e).at ts)

  pub after_law : test None ≡ false → ((t : Token) → test (Some t) ≡ true → Lawful (λ u. W (t ∷ u)) p) → Lawful W q → Lawful W (after test p q)
  after_law none first second = record { at = λ ts. after_at none first second ts (test (head ts)) refl; some = second.some }
