-- A reader of whole texts, which reads each text of its language, stops exactly where a text leaves the language. Languages with levels have a theorem of their own.
use Rattle.std.proofs.Common.{◌≡◌, List, [], ◌∷◌, ◌++◌, Ok, Err, refl, sym, ◌∙◌, ap, subst}
use Rattle.std.proofs.lemmas.List.{append-nil}
use Rattle.som_parse.specs.Faults.{Begins}
use Rattle.som_parse.specs.Languages.{Lang}
use Rattle.som_parse.specs.Readers.{Outcome, Parser, and_then, ◌>>=◌, ◌>>◌, pure, end}
use Rattle.som_parse.specs.Tokens.{head}
use Rattle.som_parse.specs.declared.cursor.Stop.{Stop}
use Rattle.som_parse.specs.declared.cursor.Stop.TheVariants.{Memory, Syntax, Nesting}
use Rattle.som_parse.specs.declared.token.Token.{Token}
use Rattle.som_parse.proofs.Laws.{Lawful, Met, Took, Stopped, Shares}

-- the tokens before a fault begin a text, and with the token in hand, or the end there, they begin none
pub record Fails {A : Type 0} (L : Lang A) (ts : List Token) (z : List Token) : Type 0 where
  pub taken : List Token
  pub splits : ts ≡ taken ++ z
  pub begins : Begins L taken
  pub none : (w : List Token) (a : A) → head w ≡ head z → L (taken ++ w) a → ⊥

module _ {A : Type 0} (L : Lang A) (p : Parser A) (law : Lawful L p) (found : (u : List Token) (a : A) → L u a → p u ≡ Ok (a, [])) where
  -- what is left of a text after it was read is nothing
  took_all : (ts : List Token) (a : A) → Took L p ts a [] → L ts a
  took_all ts a m = subst (λ y. L y a) (sym (m.splits ∙ append-nil m.taken)) m.reads

  pub read_whole : (ts : List Token) (a : A) → p ts ≡ Ok (a, []) → L ts a
  read_whole ts a e = took_all ts a (subst (Met L p ts) e (law.at ts))

  stopped_at : (ts z : List Token) (f : Stop) → Stopped L p ts f z → Fails L ts z
  stopped_at ts z f m = record {
    taken = m.taken;
    splits = m.splits;
    begins = (m.more, m.value, m.begins);
    none = λ w a same h. let e : p (m.taken ++ w) ≡ Ok (a, []) = found (m.taken ++ w) a h in let g : p (m.taken ++ w) ≡ Err (f, w) = m.local w same in cc;
  }

  pub read_fails : (ts z : List Token) (f : Stop) → p ts ≡ Err (f, z) → Fails L ts z
  read_fails ts z f e = stopped_at ts z f (subst (Met L p ts) e (law.at ts))

  -- a token that still begins a text is no fault
  no_more : (ts z more : List Token) (f : Stop) (a : A) (u : List Token) → L (u ++ more) a → head more ≡ head z → ((y : List Token) → head y ≡ head z → p (u ++ y) ≡ Err (f, y)) → ⊥
  no_more ts z more f a u h same local = let e : p (u ++ more) ≡ Ok (a, []) = found (u ++ more) a h in let g : p (u ++ more) ≡ Err (f, more) = local more same in cc

  shared : (ts z more : List Token) (a : A) (u : List Token) → L (u ++ more) a → Shares Nesting more z → ((y : List Token) → head y ≡ head z → p (u ++ y) ≡ Err (Nesting, y)) → ⊥
  shared ts z [] a u h s local = absurd s
  shared ts z (t ∷ w) a u h s local = no_more ts z (t ∷ w) Nesting a u h (sym s) local

  syntax_by : (ts z : List Token) (f : Stop) → Stopped L p ts f z → f ≡ Syntax
  syntax_by ts z Syntax m = refl
  syntax_by ts z Memory m = absurd m.shares
  syntax_by ts z Nesting m = absurd (shared ts z m.more m.value m.taken m.begins m.shares m.local)

  -- reading stops for no other reason
  pub stops_for_syntax : (ts z : List Token) (f : Stop) → p ts ≡ Err (f, z) → f ≡ Syntax
  stops_for_syntax ts z f e = syntax_by ts z f (subst (Met L p ts) e (law.at ts))

  -- a text has one value
  pub one_value : (ts : List Token) (a b : A) → L ts a → L ts b → a ≡ b
  one_value ts a b g h =
      let e : p ts ≡ Ok (a, []) = found ts a g in
      let f : p ts ≡ Ok (b, []) = found ts b h in
      let same : ◌≡◌ {A = A × List Token} (a, []) (b, []) = cc in
      ap (λ (x : A × List Token). x.0) same

-- a reader that ends with the end leaves nothing
module _ {A B : Type 0} (p : Parser A) (f : A → B) where
  ends_by : (b : B) (c : B) (t z : List Token) → ◌≡◌ {A = Outcome B} (and_then (end t) (λ _ y. Ok (b, y))) (Ok (c, z)) → z ≡ []
  unfolding end
  ends_by b c [] z e = let x : ◌≡◌ {A = B × List Token} (b, []) (c, z) = cc in sym (ap (λ (p : B × List Token). p.1) x)
  ends_by b c (t ∷ ts) z e = cc

  ends_at : (o : Outcome A) (c : B) (z : List Token) → and_then o (λ a t. and_then (end t) (λ _ y. Ok (f a, y))) ≡ Ok (c, z) → z ≡ []
  ends_at (Ok x) c z e = ends_by (f x.0) c x.1 z e
  ends_at (Err x) c z e = cc

  pub ends : (ts : List Token) (c : B) (z : List Token) → (p >>= λ a. end >> pure (f a)) ts ≡ Ok (c, z) → z ≡ []
  ends ts c z e = ends_at (p ts) c z e
