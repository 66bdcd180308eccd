-- The tokens that grammars see, and their places.
use Rattle.std.proofs.Common.{◌≡◌, ◌<◌, ◌≤◌, ℕ, take, Some, suc, ◌+◌, get_or, drop, length, arith, Bool, true, false, cond, List, [], ◌∷◌, ◌++◌, refl, sym, ◌∙◌, ap, append_assoc}
use Rattle.std.proofs.Math.Seq.{drop-cons}
use Rattle.som_lex.specs.declared.token.LexToken.{LexToken}
use Rattle.som_parse.specs.Seen.{is_left_out, token_of, seen_from, places_from}
use Rattle.som_parse.specs.Tokens.{head}
use Rattle.som_parse.specs.declared.token.Token.{Token}

module _ (source : List ℕ) where
  seen_by : (b : Bool) (p : ℕ) (t : LexToken) (ts : List LexToken) → is_left_out source t ≡ b → seen_from source p (t ∷ ts) ≡ seen_from source p (t ∷ []) ++ seen_from source (p + 1) ts
  seen_by true p t ts e = rw e refl
  seen_by false p t ts e = rw e refl

  places_by : (b : Bool) (p : ℕ) (t : LexToken) (ts : List LexToken) → is_left_out source t ≡ b → places_from source p (t ∷ ts) ≡ places_from source p (t ∷ []) ++ places_from source (p + 1) ts
  places_by true p t ts e = rw e refl
  places_by false p t ts e = rw e refl

  -- a loop that has seen the tokens before place i goes on
  pub seen_onwards : (i : ℕ) (ts : List LexToken) (d : LexToken) (before after all : List Token) → i < length ts → after ≡ before ++ seen_from source i (get_or ts i d ∷ []) → before ++ seen_from source i (drop i ts) ≡ all
      → after ++ seen_from source (i + 1) (drop (i + 1) ts) ≡ all
  seen_onwards i ts d before after all lt e h =
      let t : LexToken = get_or ts i d in
      let split : drop i ts ≡ get_or ts i d ∷ drop (i + 1) ts = drop-cons ts i d lt ∙ (let n : suc i ≡ i + 1 = omega arith in ap (λ k. get_or ts i d ∷ drop k ts) n) in
      ap (λ y. y ++ seen_from source (i + 1) (drop (i + 1) ts)) e ∙ append_assoc before (seen_from source i (t ∷ [])) (seen_from source (i + 1) (drop (i + 1) ts))
      ∙ ap (λ y. before ++ y) (sym (seen_by (is_left_out source t) i t (drop (i + 1) ts) refl)) ∙ ap (λ y. before ++ seen_from source i y) (sym split) ∙ h

  pub places_onwards : (i : ℕ) (ts : List LexToken) (d : LexToken) (before after all : List ℕ) → i < length ts → after ≡ before ++ places_from source i (get_or ts i d ∷ []) → before ++ places_from source i (drop i ts) ≡ all
      → after ++ places_from source (i + 1) (drop (i + 1) ts) ≡ all
  places_onwards i ts d before after all lt e h =
      let t : LexToken = get_or ts i d in
      let split : drop i ts ≡ get_or ts i d ∷ drop (i + 1) ts = drop-cons ts i d lt ∙ (let n : suc i ≡ i + 1 = omega arith in ap (λ k. get_or ts i d ∷ drop k ts) n) in
      ap (λ y. y ++ places_from source (i + 1) (drop (i + 1) ts)) e ∙ append_assoc before (places_from source i (t ∷ [])) (places_from source (i + 1) (drop (i + 1) ts))
      ∙ ap (λ y. before ++ y) (sym (places_by (is_left_out source t) i t (drop (i + 1) ts) refl)) ∙ ap (λ y. before ++ places_from source i y) (sym split) ∙ h

-- ---- the place of what is left

-- the list of tokens is cut where those that are seen are
pub record CutAt (source : List ℕ) (p : ℕ) (ts : List LexToken) (u z : List Token) : Type 0 where
  pub place : ℕ
  pub within : place ≤ length ts
  pub front : seen_from source p (take place ts) ≡ u
  pub is : get_or (places_from source p ts) (length u) (p + length ts) ≡ p + place
  pub at_end : place ≡ length ts → z ≡ []
  pub here : place < length ts → (t : Token) × (head z ≡ Some t) × (seen_from source p (take (suc place) ts) ≡ u ++ t ∷ []) × (seen_from source (p + place) (take 1 (drop place ts)) ≡ t ∷ [])

module _ (source : List ℕ) where
  none_left : (p : ℕ) (u z : List Token) → [] ≡ u ++ z → CutAt source p [] u z
  none_left p [] z e = record { place = 0; within = omega arith; front = refl; is = refl; at_end = λ h. sym e; here = λ lt. absurd (omega arith) }
  none_left p (t ∷ u) z e = cc

  passed_over : (p : ℕ) (t : LexToken) (ts : List LexToken) (u z : List Token) → is_left_out source t ≡ true → CutAt source (p + 1) ts u z → CutAt source p (t ∷ ts) u z
  passed_over p t ts u z e c =
      let more : (p + 1) + length ts ≡ p + suc (length ts) = omega arith in
      let onwards : (p + 1) + c.place ≡ p + suc c.place = omega arith in
      record {
        place = suc c.place;
        within = omega (arith, c.within);
        front = rw e c.front;
        is = rw e (ap (get_or (places_from source (p + 1) ts) (length u)) (sym more) ∙ c.is ∙ onwards);
        at_end = λ h. let same : c.place ≡ length ts = omega arith in c.at_end same;
        here = λ lt. let less : c.place < length ts = omega arith in let h = c.here less in (h.0, h.1, rw e (h.2), ap (λ n. seen_from source n (take 1 (drop c.place ts))) (sym onwards) ∙ h.3);
      }

  stood_here : (p : ℕ) (t : LexToken) (ts : List LexToken) (z : List Token) → is_left_out source t ≡ false → token_of source p t ∷ seen_from source (p + 1) ts ≡ z → CutAt source p (t ∷ ts) [] z
  stood_here p t ts z e h = record {
    place = 0;
    within = omega arith;
    front = refl;
    is = rw e (let zero_more : p ≡ p + 0 = omega arith in zero_more);
    at_end = λ same. absurd (omega arith);
    here = λ lt. (token_of source p t, ap head (sym h), rw e refl, rw e (let zero_more : p + 0 ≡ p = omega arith in ap (λ n. token_of source n t ∷ []) zero_more));
  }

  stood_later : (p : ℕ) (t : LexToken) (ts : List LexToken) (s : Token) (u z : List Token) → is_left_out source t ≡ false → token_of source p t ≡ s → CutAt source (p + 1) ts u z → CutAt source p (t ∷ ts) (s ∷ u) z
  stood_later p t ts s u z e same c =
      let more : (p + 1) + length ts ≡ p + suc (length ts) = omega arith in
      let onwards : (p + 1) + c.place ≡ p + suc c.place = omega arith in
      record {
        place = suc c.place;
        within = omega (arith, c.within);
        front = rw e (ap (λ y. y ∷ seen_from source (p + 1) (take c.place ts)) same ∙ ap (λ y. s ∷ y) c.front);
        is = rw e (ap (get_or (places_from source (p + 1) ts) (length u)) (sym more) ∙ c.is ∙ onwards);
        at_end = λ h. let last : c.place ≡ length ts = omega arith in c.at_end last;
        here = λ lt. let less : c.place < length ts = omega arith in let h = c.here less in (h.0, h.1, rw e (ap (λ y. y ∷ seen_from source (p + 1) (take (suc c.place) ts)) same ∙ ap (λ y. s ∷ y) h.2), ap (λ n. seen_from source n (take 1 (drop c.place ts))) (sym onwards) ∙ h.3);
      }

  stood : (p : ℕ) (t : LexToken) (ts : List LexToken) (u z : List Token) → ((v y : List Token) → seen_from source (p + 1) ts ≡ v ++ y → CutAt source (p + 1) ts v y)
      → is_left_out source t ≡ false → token_of source p t ∷ seen_from source (p + 1) ts ≡ u ++ z → CutAt source p (t ∷ ts) u z
  stood p t ts [] z again e h = stood_here p t ts z e h
  stood p t ts (s ∷ u) z again e h =
      let same : token_of source p t ≡ s = cc in
      let rest : seen_from source (p + 1) ts ≡ u ++ z = cc in
      stood_later p t ts s u z e same (again u z rest)

  cut_by : (b : Bool) (p : ℕ) (t : LexToken) (ts : List LexToken) (u z : List Token) → ((v y : List Token) → seen_from source (p + 1) ts ≡ v ++ y → CutAt source (p + 1) ts v y)
      → is_left_out source t ≡ b → cond b (seen_from source (p + 1) ts) (token_of source p t ∷ seen_from source (p + 1) ts) ≡ u ++ z → CutAt source p (t ∷ ts) u z
  cut_by true p t ts u z again e h = passed_over p t ts u z e (again u z h)
  cut_by false p t ts u z again e h = stood p t ts u z again e h

  pub cut : (p : ℕ) (ts : List LexToken) (u z : List Token) → seen_from source p ts ≡ u ++ z → CutAt source p ts u z
  cut p [] u z h = none_left p u z h
  cut p (t ∷ ts) u z h = cut_by (is_left_out source t) p t ts u z (λ v y e. cut (p + 1) ts v y e) refl h

  -- ---- what is seen of a list in two parts
  seen_append_by : (b : Bool) (p : ℕ) (t : LexToken) (xs ys : List LexToken) → seen_from source (p + 1) (xs ++ ys) ≡ seen_from source (p + 1) xs ++ seen_from source ((p + 1) + length xs) ys → is_left_out source t ≡ b
      → seen_from source p (t ∷ (xs ++ ys)) ≡ seen_from source p (t ∷ xs) ++ seen_from source (p + suc (length xs)) ys
  seen_append_by true p t xs ys h e = let n : (p + 1) + length xs ≡ p + suc (length xs) = omega arith in rw e (h ∙ ap (λ k. seen_from source (p + 1) xs ++ seen_from source k ys) n)
  seen_append_by false p t xs ys h e = let n : (p + 1) + length xs ≡ p + suc (length xs) = omega arith in rw e (ap (λ y. token_of source p t ∷ y) (h ∙ ap (λ k. seen_from source (p + 1) xs ++ seen_from source k ys) n))

  pub seen_append : (p : ℕ) (xs ys : List LexToken) → seen_from source p (xs ++ ys) ≡ seen_from source p xs ++ seen_from source (p + length xs) ys
  seen_append p [] ys = let n : p ≡ p + 0 = omega arith in ap (λ k. seen_from source k ys) n
  seen_append p (t ∷ xs) ys = seen_append_by (is_left_out source t) p t xs ys (seen_append (p + 1) xs ys) refl
