-- The first fault of a text by the place of its token.
use Rattle.std.proofs.Common.{◌≡◌, ℕ, suc, ◌+◌, ◌-◌, ◌<◌, ◌≤◌, List, [], ◌∷◌, ◌++◌, length, take, drop, get_or, sym, ◌∙◌, ap, subst, append_assoc, length-append, inl, inr, arith}
use Rattle.std.proofs.lemmas.Bool.{cases_lt}
use Rattle.std.proofs.lemmas.List.{append-nil, drop_all}
use Rattle.std.proofs.Math.Seq.{take-add, take-length}
use Rattle.som_lex.specs.declared.token.Tokens.{Tokens}
use Rattle.som_parse.specs.Faults.{Begins, IsFirstFault, seen_at}
use Rattle.som_parse.specs.Languages.{Lang}
use Rattle.som_parse.specs.Seen.{seen, seen_before, seen_from, places_from}
use Rattle.som_parse.specs.Tokens.{head}
use Rattle.som_parse.specs.declared.token.Token.{Token}
use Rattle.som_parse.proofs.Places.{CutAt, cut, seen_append}
use Rattle.som_parse.proofs.Whole.{Fails}

-- the place in the list of what is left of the tokens that are seen
abbrev pub place_of : Tokens → List Token → ℕ
place_of t z = get_or (places_from t.source 0 t.list) (length (seen t) - length z) (length t.list)

module _ (t : Tokens) where
  one_more : (k : ℕ) → seen_from t.source 0 (take (suc k) t.list) ≡ seen_before t (k + 1)
  one_more k = let n : suc k ≡ k + 1 = omega arith in ap (λ i. seen_from t.source 0 (take i t.list)) n

  at_place : (c : ℕ) → seen_from t.source (0 + c) (take 1 (drop c t.list)) ≡ seen_from t.source c (take 1 (drop c t.list))
  at_place c = let n : 0 + c ≡ c = omega arith in ap (λ i. seen_from t.source i (take 1 (drop c t.list))) n

  place_is : (u z : List Token) → seen t ≡ u ++ z → (c : CutAt t.source 0 t.list u z) → place_of t z ≡ c.place
  place_is u z splits c =
      let n : length (seen t) - length z ≡ length u = omega (arith, ap length splits ∙ length-append u z) in
      let m : length t.list ≡ 0 + length t.list = omega arith in
      let k : 0 + c.place ≡ c.place = omega arith in
      ap (λ i. get_or (places_from t.source 0 t.list) i (length t.list)) n ∙ ap (get_or (places_from t.source 0 t.list) (length u)) m ∙ c.is ∙ k

  -- the tokens before a place begin those before a later one
  pub begins_later : (k j : ℕ) → k ≤ j → (w : List Token) × (seen_before t j ≡ seen_before t k ++ w)
  begins_later k j le =
      let n : j ≡ k + (j - k) = omega arith in
      let split : take j t.list ≡ take k t.list ++ take (j - k) (drop k t.list) = ap (λ i. take i t.list) n ∙ take-add k (j - k) t.list in
      (seen_from t.source (0 + length (take k t.list)) (take (j - k) (drop k t.list)), ap (seen_from t.source 0) split ∙ seen_append t.source 0 (take k t.list) (take (j - k) (drop k t.list)))

  all_seen : seen_before t (length t.list) ≡ seen t
  all_seen = ap (seen_from t.source 0) (take-length t.list)

  module _ {A : Type 0} (L : Lang A) where
    fault_at : (z : List Token) (f : Fails L (seen t) z) (c : CutAt t.source 0 t.list f.taken z) → IsFirstFault L t c.place
    fault_at z f c =
        let front : seen_before t c.place ≡ f.taken = c.front in
        record {
          within = c.within;
          before = subst (Begins L) (sym front) f.begins;
          none = λ lt b.
              let h = c.here lt in
              let upto : seen_before t (c.place + 1) ≡ f.taken ++ h.0 ∷ [] = sym (one_more c.place) ∙ h.2 in
              f.none (h.0 ∷ b.0) b.1 (sym h.1) (subst (λ y. L y b.1) (ap (λ y. y ++ b.0) upto ∙ append_assoc f.taken (h.0 ∷ []) b.0) b.2);
          ended = λ last a h.
              let nothing : z ≡ [] = c.at_end last in
              f.none [] a (ap head (sym nothing)) (subst (λ y. L y a) (front ∙ sym (append-nil f.taken)) h);
        }

    token_there : (z : List Token) (f : Fails L (seen t) z) (c : CutAt t.source 0 t.list f.taken z) → seen_at t c.place ≡ head z
    token_there z f c = elim (cases_lt c.place (length t.list)) [
      | inl lt ↦ (let h = c.here lt in ap head (sym (at_place c.place)) ∙ ap head (h.3) ∙ sym h.1)
      | inr past ↦ (let le : c.place ≤ length t.list = c.within in let last : c.place ≡ length t.list = omega arith in
          ap (λ y. head (seen_from t.source c.place (take 1 y))) (drop_all c.place t.list past) ∙ ap head (sym (c.at_end last)))
    ]

    -- the first fault is at the token in hand
    pub first_fault : (z : List Token) → Fails L (seen t) z → IsFirstFault L t (place_of t z) × (seen_at t (place_of t z) ≡ head z)
    first_fault z f =
        let c = cut t.source 0 t.list f.taken z f.splits in
        let e : place_of t z ≡ c.place = place_is f.taken z f.splits c in
        (subst (IsFirstFault L t) (sym e) (fault_at z f c), ap (seen_at t) e ∙ token_there z f c)

    text_begins : (a : A) (k : ℕ) → k ≤ length t.list → L (seen t) a → Begins L (seen_before t k)
    text_begins a k le h = let w = begins_later k (length t.list) le in (w.0, a, subst (λ y. L y a) (sym all_seen ∙ w.1) h)

    -- what has a fault is no text
    pub fault_or_text : (k : ℕ) (a : A) → IsFirstFault L t k → L (seen t) a → ⊥
    fault_or_text k a f h = elim (cases_lt k (length t.list)) [
      | inl lt ↦ (let le : k + 1 ≤ length t.list = omega arith in f.none lt (text_begins a (k + 1) le h))
      | inr past ↦ (let le : k ≤ length t.list = f.within in let last : k ≡ length t.list = omega arith in f.ended last a (subst (λ y. L y a) (sym (ap (seen_before t) last ∙ all_seen)) h))
    ]

    not_before : (k j : ℕ) → IsFirstFault L t k → IsFirstFault L t j → k < j → ⊥
    not_before k j f g lt =
        let le : j ≤ length t.list = g.within in
        let low : k < length t.list = omega arith in
        let next : k + 1 ≤ j = omega arith in
        let w = begins_later (k + 1) j next in
        let b = g.before in
        f.none low (w.0 ++ b.0, b.1, subst (λ y. L y b.1) (ap (λ y. y ++ b.0) w.1 ∙ append_assoc (seen_before t (k + 1)) w.0 b.0) b.2)

    -- there is one first fault
    pub one_fault : (k j : ℕ) → IsFirstFault L t k → IsFirstFault L t j → k ≡ j
    one_fault k j f g = elim (cases_lt k j) [
      | inl lt ↦ absurd (not_before k j f g lt)
      | inr le ↦ elim (cases_lt j k) [ inl lt ↦ absurd (not_before j k g f lt) | inr ge ↦ omega arith ]
    ]
