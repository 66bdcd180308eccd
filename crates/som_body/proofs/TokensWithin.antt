-- The tokens of a text are within their limits, and so are those of each part of it.
use Rattle.std.proofs.Common.{◌≡◌, ℕ, suc, ◌+◌, ◌<◌, ◌≤◌, ◌^◌, Bool, true, false, cond, List, [], ◌∷◌, ◌++◌, length, Option, Some, refl, sym, ap, subst, arith, zero-add, length-append}
use Rattle.std.specs.Prelude.{⊤, All}
use Rattle.std.specs.List.{slice_get}
use Rattle.std.specs.Option.{option_map_or}
use Rattle.std.proofs.lemmas.List.Elements.{All-nil, All-cons, All-head, All-tail, All-append}
use Rattle.som_lex.specs.declared.token.LexToken.{LexToken}
use Rattle.som_lex.specs.declared.token.TokenKind.{TokenKind}
use Rattle.som_lex.specs.declared.token.TokenKind.TheVariants as kinds
use Rattle.som_lex.specs.declared.token.Tokens.{Tokens}
use Rattle.som_lex.specs.Spans.{IsSpelled, bytes_of}
use Rattle.som_lex.specs.Spelling.{FitsLimit}
use Rattle.som_lex.specs.Values.{text_of}
use Rattle.som_model.specs.declared.limits.TheConstants.{MAX_NAME, MAX_TEXT}
use Rattle.som_parse.specs.Languages.{Lang, Listed, the_first, the_next}
use Rattle.som_parse.specs.Seen.{seen, seen_as, seen_from, text_at, token_of, is_left_out}
use Rattle.som_parse.specs.declared.token.Token.{Token}
use Rattle.som_parse.specs.declared.token.Token.TheVariants as token

-- a word is no longer than a name may be, a literal no longer than a text, and a number is below 2 ^ 31
abbrev pub TokenWithin : (ℕ → List ℕ) → Token → Type 0
TokenWithin at (token.Word k p) = length (at p) ≤ MAX_NAME
TokenWithin at (token.Number n) = n < 2 ^ 31
TokenWithin at (token.Literal p) = length (text_of (at p)) ≤ MAX_TEXT
TokenWithin at (token.Mark s) = ⊤
TokenWithin at token.Directive = ⊤

-- tokens within their limits, and no more than so many
pub record AreWithin (at : ℕ → List ℕ) (most : ℕ) (u : List Token) : Type 0 where
  pub each : All (TokenWithin at) u
  pub few : length u ≤ most

-- ---- the tokens of a text
seen_within : (at : ℕ → List ℕ) (kind : TokenKind) (bs : List ℕ) (p : ℕ) → at p ≡ bs → FitsLimit kind bs → TokenWithin at (seen_as kind bs p)
seen_within at kinds.Word bs p e fits = subst (λ (ys : List ℕ). length ys ≤ MAX_NAME) (sym e) fits
seen_within at kinds.Number bs p e fits = omega (arith, fits)
seen_within at kinds.Literal bs p e fits = subst (λ (ys : List ℕ). length (text_of ys) ≤ MAX_TEXT) (sym e) fits
seen_within at kinds.Sign bs p e fits = tt
seen_within at kinds.Directive bs p e fits = tt

module _ (t : Tokens) where
  -- these are the tokens of the text from a place on
  abbrev Stand : ℕ → List LexToken → Type 0
  Stand p ts = (i : ℕ) (x : LexToken) → slice_get ts i ≡ Some x → slice_get t.list (i + p) ≡ Some x

  stand_later : (p : ℕ) (x : LexToken) (ts : List LexToken) → Stand p (x ∷ ts) → Stand (p + 1) ts
  stand_later p x ts h i y e =
      let k : suc i + p ≡ i + (p + 1) = omega arith in
      subst (λ j. slice_get t.list j ≡ Some y) k (h (suc i) y e)

  stands_first : (p : ℕ) (x : LexToken) (ts : List LexToken) → Stand p (x ∷ ts) → text_at t p ≡ bytes_of t.source x
  stands_first p x ts h = ap (λ (o : Option LexToken). option_map_or (bytes_of t.source) o []) (subst (λ j. slice_get t.list j ≡ Some x) (zero-add p) (h 0 x refl))

  kept_within : (left_out : Bool) (n : ℕ) (x : Token) (xs : List Token) → TokenWithin (text_at t) x → AreWithin (text_at t) n xs → AreWithin (text_at t) (suc n) (cond left_out xs (x ∷ xs))
  kept_within true n x xs h hs = record { each = hs.each; few = omega (arith, hs.few) }
  kept_within false n x xs h hs = record { each = All-cons (TokenWithin (text_at t)) x xs h hs.each; few = omega (arith, hs.few) }

  from_within : (p : ℕ) (ts : List LexToken) → Stand p ts → All (IsSpelled t.source) ts → AreWithin (text_at t) (length ts) (seen_from t.source p ts)
  unfolding token_of
  from_within p [] h spelled = record { each = All-nil (TokenWithin (text_at t)); few = omega arith }
  from_within p (x ∷ ts) h spelled =
      kept_within (is_left_out t.source x) (length ts) (token_of t.source p x) (seen_from t.source (p + 1) ts)
      (seen_within (text_at t) x.kind (bytes_of t.source x) p (stands_first p x ts h) (All-head (IsSpelled t.source) x ts spelled).fits)
      (from_within (p + 1) ts (stand_later p x ts h) (All-tail (IsSpelled t.source) x ts spelled))

  -- those of a text are within their limits, and no more than it has
  pub tokens_within : All (IsSpelled t.source) t.list → AreWithin (text_at t) (length t.list) (seen t)
  tokens_within spelled = from_within 0 t.list (λ i x e. subst (λ j. slice_get t.list j ≡ Some x) (omega arith) e) spelled

-- ---- parts of them
pub push : {A : Type 0} (P : A → Type 0) (xs : List A) (x : A) → All P xs → P x → All P (xs ++ x ∷ [])
push P xs x hs h = All-append P xs (x ∷ []) hs (All-cons P x [] h (All-nil P))

module _ {at : ℕ → List ℕ} {most : ℕ} where
  pub one : (x : Token) (u : List Token) → AreWithin at most (x ∷ u) → TokenWithin at x
  one x u h = All-head (TokenWithin at) x u h.each

  pub after : (x : Token) (u : List Token) → AreWithin at most (x ∷ u) → AreWithin at most u
  after x u h = record { each = All-tail (TokenWithin at) x u h.each; few = omega (arith, h.few) }

  left_each : (u v : List Token) → AreWithin at most (u ++ v) → All (TokenWithin at) u
  left_each [] v h = All-nil (TokenWithin at)
  left_each (x ∷ u) v h = All-cons (TokenWithin at) x u (one x (u ++ v) h) (left_each u v (after x (u ++ v) h))

  pub left : (u v : List Token) → AreWithin at most (u ++ v) → AreWithin at most u
  left u v h = record { each = left_each u v h; few = omega (arith, h.few, length-append u v) }

  pub right : (u v : List Token) → AreWithin at most (u ++ v) → AreWithin at most v
  right [] v h = h
  right (x ∷ u) v h = right u v (after x (u ++ v) h)

  pub listed_within : {A : Type 0} (L : Lang A) (P : A → Type 0) → ((u : List Token) (a : A) → L u a → AreWithin at most u → P a)
      → {u : List Token} {xs : List A} → Listed L u xs → AreWithin at most u → All P xs
  listed_within L P each (the_first {u = u} {a = a} h) all = All-cons P a [] (each u a h all) (All-nil P)
  listed_within L P each (the_next {u = u} {v = v} {as' = xs} {a = a} hs h) all =
      push P xs a (listed_within L P each hs (left u _ all)) (each v a h (after _ v (right u _ all)))
