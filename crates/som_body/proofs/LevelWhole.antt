-- A reader of whole texts with levels: it reads the texts whose levels suffice, stops exactly where a text leaves the language, and stops for want of levels only where all texts need more.
use Rattle.std.proofs.Common.{◌≡◌, ℕ, ◌+◌, ◌<◌, ◌≤◌, suc, List, [], ◌∷◌, ◌++◌, length, take, Some, Ok, Err, refl, sym, ◌∙◌, ap, subst, append_assoc, length-append, inl, inr, arith}
use Rattle.std.proofs.lemmas.Bool.{cases_lt}
use Rattle.std.proofs.lemmas.List.{append-nil}
use Rattle.som_parse.specs.Readers.{Outcome, Parser}
use Rattle.som_parse.specs.Tokens.{head}
use Rattle.som_parse.specs.Faults.{Begins}
use Rattle.som_parse.specs.declared.cursor.Stop.{Stop}
use Rattle.som_parse.specs.declared.cursor.Stop.TheVariants.{Memory, Syntax, Nesting}
use Rattle.som_parse.specs.declared.token.Token.{Token}
use Rattle.som_parse.proofs.Laws.{Lawful, Met, Took, Stopped, Shares}
use Rattle.som_parse.proofs.Whole.{Fails}
use Rattle.som_body.specs.Levels.{top}
use Rattle.som_body.proofs.LevelLists.{top_take, top_part}
use Rattle.som_body.proofs.LevelFound.{Deep, Found}
use Rattle.som_body.specs.Answer.{Leveled, Texts, NoneDeep, SomeDeep}
use Rattle.som_body.proofs.CallFound.{split_off}

-- where reading stopped, the tokens before it begin a text, and with the one in hand, or the end there, none; no construct is too deep so far
pub record LeavesAt {A : Type 0} (L : Leveled A) (d : ℕ) (ts z : List Token) : Type 0 where
  pub fails : Fails (Texts L) ts z
  pub low : NoneDeep L d fails.taken

-- the tokens up to and with the one in hand begin a text, and with it the first construct is too deep
pub record NestsAt {A : Type 0} (L : Leveled A) (d : ℕ) (ts z : List Token) : Type 0 where
  pub taken : List Token
  pub splits : ts ≡ taken ++ z
  pub first : Token
  pub here : head z ≡ Some first
  pub before : Begins (Texts L) (taken ++ first ∷ [])
  pub low : NoneDeep L d taken
  pub deep : SomeDeep L d (taken ++ first ∷ [])

no_value : {A : Type 0} {x : A} {y z : List Token} {f : Stop} {o : Outcome A} → o ≡ Ok (x, y) → o ≡ Err (f, z) → ⊥
no_value e g = cc

one_stop : {A : Type 0} {f k : Stop} {y z : List Token} {o : Outcome A} → o ≡ Err (f, y) → o ≡ Err (k, z) → f ≡ k
one_stop {f = f} {k = k} {y = y} {z = z} e g = let x : ◌≡◌ {A = Stop × List Token} (f, y) (k, z) = cc in ap (λ (p : Stop × List Token). p.0) x

one_rest : {A : Type 0} {f k : Stop} {y z : List Token} {o : Outcome A} → o ≡ Err (f, y) → o ≡ Err (k, z) → y ≡ z
one_rest {f = f} {k = k} {y = y} {z = z} e g = let x : ◌≡◌ {A = Stop × List Token} (f, y) (k, z) = cc in ap (λ (p : Stop × List Token). p.1) x

module _ {A : Type 0} (L : Leveled A) (p : ℕ → Parser A) (law : (d : ℕ) → Lawful (Texts L) (p d)) (found : (d : ℕ) (l : List ℕ) (u : List Token) (a : A) → L l u a → Found d l a [] u (p d u)) where
  never_syntax : (d : ℕ) (l : List ℕ) (u z : List Token) (a : A) → L l u a → p d u ≡ Err (Syntax, z) → ⊥
  never_syntax d l u z a x e = let m = found d l u a x in elim (cases_lt d (top l)) [ inl gt ↦ (let same : Nesting ≡ Syntax = one_stop (m.deep gt).is e in cc) | inr le ↦ no_value (m.fits le) e ]

  no_deeper : (d : ℕ) (l : List ℕ) (u z : List Token) (a x : A) → L l u a → p d u ≡ Ok (x, z) → top l ≤ d
  no_deeper d l u z a x y e = let m = found d l u a y in elim (cases_lt d (top l)) [ inl gt ↦ absurd (no_value e (m.deep gt).is) | inr le ↦ le ]

  -- where reading stopped after these tokens, it didn't stop before, whatever follows
  module _ (d : ℕ) (u z : List Token) (f : Stop) (stops : p d (u ++ z) ≡ Err (f, z)) where
    earlier : (w rest y : List Token) → rest ≡ y ++ w → (t : List Token) → u ≡ t ++ y → length t < length u → ((x : List Token) → head x ≡ head rest → p d (t ++ x) ≡ Err (Nesting, x)) → ⊥
    earlier w rest [] e t same lt local = absurd (omega (arith, lt, ap length same, length-append t []))
    earlier w rest (s ∷ y) e t same lt local =
        let here : head ((s ∷ y) ++ z) ≡ head rest = ap head (sym e) in
        let again : p d (u ++ z) ≡ Err (Nesting, (s ∷ y) ++ z) = ap (λ x. p d (x ++ z)) same ∙ ap (p d) (append_assoc t (s ∷ y) z) ∙ local ((s ∷ y) ++ z) here in
        let both : (s ∷ y) ++ z ≡ z = one_rest again stops in
        absurd (omega (arith, ap length both, length-append (s ∷ y) z))

    not_before : (w : List Token) (l : List ℕ) (o : Outcome A) (m : Deep d l (u ++ w) o) → Stopped (Texts L) (p d) (u ++ w) Nesting m.rest → length m.front < length u → ⊥
    not_before w l o m n lt =
        let same : length n.taken ≡ length m.front = omega (arith, ap length n.splits, ap length m.splits, length-append n.taken m.rest, length-append m.front m.rest) in
        let y = split_off n.taken m.rest u w (sym n.splits) (omega (arith, same, lt)) in
        earlier w m.rest y.0 y.2 n.taken y.1 (omega (arith, same, lt)) n.local

    low_at : (w : List Token) (l : List ℕ) (a : A) → L l (u ++ w) a → d < top l → top (take (length u) l) ≤ d
    low_at w l a x gt =
        let m = (found d l (u ++ w) a x).deep gt in
        let n : Stopped (Texts L) (p d) (u ++ w) Nesting m.rest = subst (Met (Texts L) (p d) (u ++ w)) m.is ((law d).at (u ++ w)) in
        elim (cases_lt (length m.front) (length u)) [ inl lt ↦ absurd (not_before w l _ m n lt) | inr far ↦ (let e = top_take (length u) (length m.front) l far in omega (arith, e, m.low)) ]

    low_so_far : NoneDeep L d u
    low_so_far w l a x = elim (cases_lt d (top l)) [ inl gt ↦ low_at w l a x gt | inr le ↦ (let e = top_part (length u) l in omega (arith, e, le)) ]

  module _ (d : ℕ) (ts : List Token) where
    took_all : (a : A) → Took (Texts L) (p d) ts a [] → Texts L ts a
    took_all a m = subst (λ y. Texts L y a) (sym (m.splits ∙ append-nil m.taken)) m.reads

    pub whole_read : (a : A) → p d ts ≡ Ok (a, []) → (l : List ℕ) × (top l ≤ d) × L l ts a
    whole_read a e = let x = took_all a (subst (Met (Texts L) (p d) ts) e ((law d).at ts)) in (x.0, no_deeper d x.0 ts [] a a x.1 e, x.1)

    stopped_at : (z : List Token) → Stopped (Texts L) (p d) ts Syntax z → LeavesAt L d ts z
    stopped_at z m = record {
      fails = record {
        taken = m.taken;
        splits = m.splits;
        begins = (m.more, m.value, m.begins);
        none = λ w a same x. never_syntax d x.0 (m.taken ++ w) w a x.1 (m.local w same);
      };
      low = low_so_far d m.taken z Syntax (m.local z refl);
    }

    pub syntax_fails : (z : List Token) → p d ts ≡ Err (Syntax, z) → LeavesAt L d ts z
    syntax_fails z e = stopped_at z (subst (Met (Texts L) (p d) ts) e ((law d).at ts))

    -- each text that goes on with the token in hand is too deep with it
    deep_at : (u w : List Token) (t : Token) (l : List ℕ) (a : A) → L l (u ++ t ∷ w) a → p d (u ++ t ∷ w) ≡ Err (Nesting, t ∷ w) → d < top (take (length (u ++ t ∷ [])) l)
    deep_at u w t l a x e =
        let m = found d l (u ++ t ∷ w) a x in
        elim (cases_lt d (top l)) [
          | inl gt ↦ (let n = m.deep gt in
              let same : n.rest ≡ t ∷ w = one_rest n.is e in
              let at : length (u ++ t ∷ []) ≡ suc (length n.front) = omega (arith, ap length n.splits, ap length same, length-append n.front n.rest, length-append u (t ∷ w), length-append u (t ∷ [])) in
              subst (λ i. d < top (take i l)) (sym at) n.high)
          | inr le ↦ absurd (no_value (m.fits le) e)
        ]

    shared : (u more z : List Token) (a : A) → ts ≡ u ++ z → Texts L (u ++ more) a → Shares Nesting more z → ((y : List Token) → head y ≡ head z → p d (u ++ y) ≡ Err (Nesting, y)) → NestsAt L d ts z
    shared u [] z a splits x h local = absurd h
    shared u (t ∷ w) z a splits x h local = record {
      taken = u;
      splits = splits;
      first = t;
      here = h;
      before = (w, a, subst (λ y. Texts L y a) (sym (append_assoc u (t ∷ []) w)) x);
      low = low_so_far d u z Nesting (local z refl);
      deep = λ y l b m. deep_at u y t l b (subst (λ q. L l q b) (append_assoc u (t ∷ []) y) m) (local (t ∷ y) (sym h));
    }

    nested_at : (z : List Token) → Stopped (Texts L) (p d) ts Nesting z → NestsAt L d ts z
    nested_at z m = shared m.taken m.more z m.value m.splits m.begins m.shares m.local

    pub nesting_fails : (z : List Token) → p d ts ≡ Err (Nesting, z) → NestsAt L d ts z
    nesting_fails z e = nested_at z (subst (Met (Texts L) (p d) ts) e ((law d).at ts))

    memory_at : {B : Type 0} (z : List Token) → Stopped (Texts L) (p d) ts Memory z → B
    memory_at z m = absurd m.shares

    pub memory_fails : {B : Type 0} (z : List Token) → p d ts ≡ Err (Memory, z) → B
    memory_fails z e = memory_at z (subst (Met (Texts L) (p d) ts) e ((law d).at ts))

  -- a text has one value
  pub one_value : (u : List Token) (a b : A) → Texts L u a → Texts L u b → a ≡ b
  one_value u a b x y =
      let e : p (top x.0 + top y.0) u ≡ Ok (a, []) = (found (top x.0 + top y.0) x.0 u a x.1).fits (omega arith) in
      let f : p (top x.0 + top y.0) u ≡ Ok (b, []) = (found (top x.0 + top y.0) y.0 u b y.1).fits (omega arith) in
      let same : ◌≡◌ {A = A × List Token} (a, []) (b, []) = cc in
      ap (λ (q : A × List Token). q.0) same
