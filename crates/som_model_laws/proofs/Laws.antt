-- The laws of ancestors, of the class that answers, of names and of effective orders.
use Rattle.std.proofs.Common.{◌≡◌, ◌↔◌, ℕ, zero, suc, ◌≤◌, inl, inr, Bool, true, false, if◌then◌else◌, List, [], ◌∷◌, map, length, take, Option, Some, None, IsSome, refl, sym, ap, ◌∙◌, subst, arith, true≢false}
use Rattle.std.specs.Option.{option_and_then}
use Rattle.std.specs.Str.{bytes_eq}
use Rattle.som_model.specs.Lists.{Mem, without, firsts, joined, first, or_else, first_some, find, some, among, doubles}
use Rattle.som_model.specs.Hierarchy.{Hierarchy, Falls, Tells}
use Rattle.som_model.specs.Ancestors.{Descends, itself, by_parent, anc_within, anc, member, descends}
use Rattle.som_model.specs.Resolution.{Chooses, inherits, impl_within, impl, answer, byname}
use Rattle.som_model.specs.EffectiveOrder.{effective_order}
use Rattle.som_model.specs.declared.key.ClassKey.{ClassKey}
use Rattle.som_model.specs.Keys.{same_key}
use Rattle.som_model.proofs.KeyLaws.{exact_bytes, exact_keys}
use Rattle.som_model.proofs.ListLaws.{take_front, drop_front}
use Rattle.som_model_laws.specs.First.{IsFirst}
use Rattle.som_model_laws.specs.Added.{IsThinned, added}
use Rattle.som_model_laws.proofs.Members.{mem_left, mem_right, mem_joined, joined_mem, no_members, map_on, without_fails, mem_without, without_thins, firsts_mem, mem_some, some_mem, some_on, both_or_none, Apart, firsts_apart, apart_doubles, find_first, first_find, find_none, none_find, first_there, first_on, first_none, first_from, first_chosen}

-- Ancestors, where the test tells names apart.
module _ {K : Type 0} (h : Hierarchy K) (tells : Tells h) where
  by_test : (a x : K) (b : Bool) → h.same x a ≡ b → (xs : List K) → Mem a xs → Mem a (x ∷ without (h.same x) xs)
  by_test a x true e xs m = inl (sym (tells.two x a e))
  by_test a x false e xs m = inr (mem_without (h.same x) a xs (λ t. true≢false (sym t ∙ e)) m)

  -- first occurrences have all members
  pub mem_firsts : (a : K) (xs : List K) → Mem a xs → Mem a (firsts h.same xs)
  mem_firsts a [] m = m
  mem_firsts a (x ∷ xs) (inl e) = inl e
  mem_firsts a (x ∷ xs) (inr m) = by_test a x (h.same x a) refl (firsts h.same xs) (mem_firsts a xs m)

  -- the test of membership
  pub member_mem : (a : K) (xs : List K) → (member h a xs ≡ true) ↔ Mem a xs
  member_mem a xs = (λ e. (let r = some_mem (h.same a) xs e in subst (λ z. Mem z xs) (sym (tells.two a r.0 r.2)) r.1), λ m. mem_some (h.same a) a xs m (tells.one a))

  anc_descends : (n : ℕ) (x a : K) → Mem a (anc_within h n x) → Descends h x a
  anc_descends zero x a (inl e) = subst (λ z. Descends h x z) (sym e) itself
  anc_descends zero x a (inr m) = absurd m
  anc_descends (suc n) x a m = elim (firsts_mem h.same a (x ∷ joined (map (anc_within h n) (h.parents x))) m) [
    | inl e ↦ subst (λ z. Descends h x z) (sym e) itself
    | inr k ↦ (let r = joined_mem (anc_within h n) a (h.parents x) k in by_parent r.0 r.1 (anc_descends n r.0 a r.2))
  ]

  itself_in : (n : ℕ) (x : K) → Mem x (anc_within h n x)
  itself_in zero x = inl refl
  itself_in (suc n) x = inl refl

  descends_anc : Falls h → (x a : K) → Descends h x a → (n : ℕ) → h.height x ≤ n → Mem a (anc_within h n x)
  descends_anc falls x a itself n le = itself_in n x
  descends_anc falls x a (by_parent p m d) zero le = absurd (omega (arith, falls x p m))
  descends_anc falls x a (by_parent p m d) (suc n) le =
      let lower : h.height p ≤ n = omega (arith, falls x p m) in
      mem_firsts a (x ∷ joined (map (anc_within h n) (h.parents x))) (inr (mem_joined (anc_within h n) a p (h.parents x) m (descends_anc falls p a d n lower)))

  -- the ancestors are the classes that x descends from
  pub ancestors : Falls h → (x a : K) → Mem a (anc h x) ↔ Descends h x a
  ancestors falls x a = (anc_descends (h.height x) x a, λ d. descends_anc falls x a d (h.height x) (omega arith))

  -- the test of descent
  pub descends_test : Falls h → (x a : K) → (descends h x a ≡ true) ↔ Descends h x a
  descends_test falls x a = (λ e. (ancestors falls x a).0 ((member_mem a (anc h x)).0 e), λ d. (member_mem a (anc h x)).1 ((ancestors falls x a).1 d))

  within_apart : (n : ℕ) (x : K) → Apart (anc_within h n x)
  within_apart zero x = ((λ m. m), tt)
  within_apart (suc n) x = firsts_apart h.same tells.one (x ∷ joined (map (anc_within h n) (h.parents x)))

  -- no ancestor stands twice
  pub ancestors_apart : (x : K) → Apart (anc h x)
  ancestors_apart x = within_apart (h.height x) x

  pub ancestors_once : (x : K) → doubles h.same [] (anc h x) ≡ []
  ancestors_once x = apart_doubles h.same tells.two [] (anc h x) (λ a m k. m) (ancestors_apart x)

first_within : {K : Type 0} (h : Hierarchy K) (n : ℕ) (x : K) → first (anc_within h n x) ≡ Some x
first_within h zero x = refl
first_within h (suc n) x = refl

-- a class is the first of its ancestors
pub ancestors_first : {K : Type 0} (h : Hierarchy K) (x : K) → first (anc h x) ≡ Some x
ancestors_first h x = first_within h (h.height x) x

pub descends_through : {K : Type 0} (h : Hierarchy K) (x y z : K) → Descends h x y → Descends h y z → Descends h x z
descends_through h x y z itself e = e
descends_through h x y z (by_parent p m d) e = by_parent p m (descends_through h p y z d e)

-- Levels, where each parent stands lower.
module _ {K : Type 0} (h : Hierarchy K) (falls : Falls h) where
  at_bottom : (m : ℕ) (x : K) → h.height x ≤ 0 → anc_within h m x ≡ x ∷ []
  at_bottom zero x le = refl
  at_bottom (suc m) x le = ap (λ ps. firsts h.same (x ∷ joined (map (anc_within h m) ps))) (no_members (h.parents x) (λ p k. omega (arith, falls x p k)))

  -- more levels than the height change nothing
  pub anc_stable : (n m : ℕ) (x : K) → h.height x ≤ n → h.height x ≤ m → anc_within h n x ≡ anc_within h m x
  anc_stable zero m x le lm = sym (at_bottom m x le)
  anc_stable (suc n) zero x le lm = at_bottom (suc n) x lm
  anc_stable (suc n) (suc m) x le lm = ap (λ l. firsts h.same (x ∷ joined l))
      (map_on (anc_within h n) (anc_within h m) (h.parents x) (λ p k.
      let a : h.height p ≤ n = omega (arith, falls x p k) in let b : h.height p ≤ m = omega (arith, falls x p k) in anc_stable n m p a b))

  -- a class, and then the ancestors of its parents
  pub ancestors_step : (x : K) → anc h x ≡ firsts h.same (x ∷ joined (map (anc h) (h.parents x)))
  ancestors_step x = let up : h.height x ≤ suc (h.height x) = omega arith in
      anc_stable (h.height x) (suc (h.height x)) x (omega arith) up
      ∙ ap (λ l. firsts h.same (x ∷ joined l)) (map_on (anc_within h (h.height x)) (anc h) (h.parents x) (λ p k.
      let a : h.height p ≤ h.height x = omega (arith, falls x p k) in anc_stable (h.height x) (h.height p) p a (omega arith)))

  module _ (has_body : K → Bool) (chosen : K → Option K) (a : K) (picks : Chooses h chosen a) where
    -- what a class inherits depends on what its parents have alone
    inherits_on : (f g : K → Option K) (x : K) (c : Option K) → chosen x ≡ c → ((p : K) → Mem p (h.parents x) → f p ≡ g p) → inherits h a f c (h.parents x) ≡ inherits h a g c (h.parents x)
    inherits_on f g x None is e = first_on (λ p. if descends h p a then f p else None) (λ p. if descends h p a then g p else None) (h.parents x) (λ p m. ap (λ o. if descends h p a then o else None) (e p m))
    inherits_on f g x (Some p) is e = e p (picks.parent x p is)

    from_none : (f : K → Option K) (x : K) (c : Option K) → chosen x ≡ c → h.height x ≤ 0 → inherits h a f c (h.parents x) ≡ None
    from_none f x None is le = ap (λ ps. inherits h a f None ps) (no_members (h.parents x) (λ p k. omega (arith, falls x p k)))
    from_none f x (Some p) is le = absurd (omega (arith, falls x p (picks.parent x p is)))

    at_root : (m : ℕ) (x : K) → h.height x ≤ 0 → impl_within h has_body chosen a m x ≡ (if has_body x then Some x else None)
    at_root zero x le = refl
    at_root (suc m) x le = ap (λ o. if has_body x then Some x else o) (from_none (impl_within h has_body chosen a m) x (chosen x) refl le)

    -- more levels than the height change nothing
    pub implementation_stable : (n m : ℕ) (x : K) → h.height x ≤ n → h.height x ≤ m → impl_within h has_body chosen a n x ≡ impl_within h has_body chosen a m x
    implementation_stable zero m x le lm = sym (at_root m x le)
    implementation_stable (suc n) zero x le lm = at_root (suc n) x lm
    implementation_stable (suc n) (suc m) x le lm = ap (λ o. if has_body x then Some x else o)
        (inherits_on (impl_within h has_body chosen a n) (impl_within h has_body chosen a m) x (chosen x) refl (λ p k.
        let i : h.height p ≤ n = omega (arith, falls x p k) in let j : h.height p ≤ m = omega (arith, falls x p k) in implementation_stable n m p i j))

    -- a class with a body, or else what it inherits from the chosen parent, or the first that descends and has an answer
    pub implementation_step : (x : K) → impl h has_body chosen a x ≡ (if has_body x then Some x else inherits h a (impl h has_body chosen a) (chosen x) (h.parents x))
    implementation_step x = let up : h.height x ≤ suc (h.height x) = omega arith in
        implementation_stable (h.height x) (suc (h.height x)) x (omega arith) up
        ∙ ap (λ o. if has_body x then Some x else o)
        (inherits_on (impl_within h has_body chosen a (h.height x)) (impl h has_body chosen a) x (chosen x) refl (λ p k.
        let i : h.height p ≤ h.height x = omega (arith, falls x p k) in implementation_stable (h.height x) (h.height p) p i (omega arith)))

-- Descent by steps.
module _ {K : Type 0} (h : Hierarchy K) (tells : Tells h) where
  above_some : (n : ℕ) (x a : K) → member h a (anc_within h (suc n) x) ≡ true → (b : Bool) → h.same a x ≡ b → (if b then true else some (λ p. member h a (anc_within h n p)) (h.parents x)) ≡ true
  above_some n x a e true is = refl
  above_some n x a e false is =
      elim (firsts_mem h.same a (x ∷ joined (map (anc_within h n) (h.parents x))) ((member_mem h tells a (anc_within h (suc n) x)).0 e)) [
        | inl q ↦ absurd (true≢false (sym (tells.one a) ∙ ap (h.same a) q ∙ is))
        | inr k ↦ (let r = joined_mem (anc_within h n) a (h.parents x) k in mem_some (λ p. member h a (anc_within h n p)) r.0 (h.parents x) r.1 ((member_mem h tells a (anc_within h n r.0)).1 r.2))
      ]

  some_above : (n : ℕ) (x a : K) (b : Bool) → h.same a x ≡ b → (if b then true else some (λ p. member h a (anc_within h n p)) (h.parents x)) ≡ true → member h a (anc_within h (suc n) x) ≡ true
  some_above n x a true is e = (member_mem h tells a (anc_within h (suc n) x)).1 (inl (tells.two a x is))
  some_above n x a false is e =
      let r = some_mem (λ p. member h a (anc_within h n p)) (h.parents x) e in
      (member_mem h tells a (anc_within h (suc n) x)).1 (mem_firsts h tells a (x ∷ joined (map (anc_within h n) (h.parents x)))
      (inr (mem_joined (anc_within h n) a r.0 (h.parents x) r.1 ((member_mem h tells a (anc_within h n r.0)).0 r.2))))

  -- a class is among the ancestors of x where it is x, or among those of some parent
  pub member_step : (n : ℕ) (x a : K) → member h a (anc_within h (suc n) x) ≡ (if h.same a x then true else some (λ p. member h a (anc_within h n p)) (h.parents x))
  member_step n x a = both_or_none _ _ (λ e. above_some n x a e (h.same a x) refl) (some_above n x a (h.same a x) refl)

  -- a class descends from A where it is A, or some parent of it descends from A
  pub descends_step : Falls h → (x a : K) → descends h x a ≡ (if h.same a x then true else some (λ p. descends h p a) (h.parents x))
  descends_step falls x a =
      let up : h.height x ≤ suc (h.height x) = omega arith in
      ap (member h a) (anc_stable h falls (h.height x) (suc (h.height x)) x (omega arith) up)
      ∙ member_step (h.height x) x a
      ∙ ap (λ (b : Bool). if h.same a x then true else b) (some_on (λ p. member h a (anc_within h (h.height x) p)) (λ p. descends h p a) (h.parents x) (λ p k.
      let lower : h.height p ≤ h.height x = omega (arith, falls x p k) in ap (member h a) (anc_stable h falls (h.height x) (h.height p) p lower (omega arith))))

own_or : {K : Type 0} (b : Bool) (x : K) (r : Option K) → IsSome r → IsSome (if b then Some x else r)
own_or true x r s = refl
own_or false x r s = s

if_asked : {K : Type 0} (b : Bool) (o : Option K) (y : K) → (if b then o else None) ≡ Some y → (b ≡ true) × (o ≡ Some y)
if_asked true o y e = (refl, e)
if_asked false o y e = absurd (cc)

-- Who answers.
module _ {K : Type 0} (h : Hierarchy K) (has_body : K → Bool) (chosen : K → Option K) (a : K) where
  own_answers : (n : ℕ) (x : K) → has_body x ≡ true → IsSome (impl_within h has_body chosen a n x)
  own_answers zero x e = rw e refl
  own_answers (suc n) x e = rw e refl

  -- what is inherited is what some class has
  heir : (f : K → Option K) (ps : List K) (y : K) (c : Option K) → inherits h a f c ps ≡ Some y → (p : K) × (f p ≡ Some y)
  heir f ps y None e = let r = first_from (λ p. if descends h p a then f p else None) ps y e in (r.0, (if_asked (descends h r.0 a) (f r.0) y r.2).1)
  heir f ps y (Some p) e = (p, e)

  body_by : (x y : K) (r : Option K) (b : Bool) → has_body x ≡ b → (r ≡ Some y → has_body y ≡ true) → (if b then Some x else r) ≡ Some y → has_body y ≡ true
  body_by x y r true own f e = let here : x ≡ y = cc in subst (λ z. has_body z ≡ true) here own
  body_by x y r false own f e = f e

  within_body : (n : ℕ) (x y : K) → impl_within h has_body chosen a n x ≡ Some y → has_body y ≡ true
  within_body zero x y e = body_by x y None (has_body x) refl (λ k. absurd (cc)) e
  within_body (suc n) x y e = body_by x y _ (has_body x) refl (λ k.
      let r = heir (impl_within h has_body chosen a n) (h.parents x) y (chosen x) k in within_body n r.0 y r.1) e

  -- who answers has a body
  pub implementation_body : (x y : K) → impl h has_body chosen a x ≡ Some y → has_body y ≡ true
  implementation_body x y e = within_body (h.height x) x y e

  module _ (picks : Chooses h chosen a) where
    parent_heir : (f : K → Option K) (x y : K) (c : Option K) → chosen x ≡ c → inherits h a f c (h.parents x) ≡ Some y → (p : K) × Mem p (h.parents x) × (f p ≡ Some y)
    parent_heir f x y None is e = let r = first_from (λ p. if descends h p a then f p else None) (h.parents x) y e in (r.0, r.1, (if_asked (descends h r.0 a) (f r.0) y r.2).1)
    parent_heir f x y (Some p) is e = (p, picks.parent x p is, e)

    above_by : (x y : K) (r : Option K) (b : Bool) → (r ≡ Some y → Descends h x y) → (if b then Some x else r) ≡ Some y → Descends h x y
    above_by x y r true f e = let here : x ≡ y = cc in subst (λ z. Descends h x z) here itself
    above_by x y r false f e = f e

    within_above : (n : ℕ) (x y : K) → impl_within h has_body chosen a n x ≡ Some y → Descends h x y
    within_above zero x y e = above_by x y None (has_body x) (λ k. absurd (cc)) e
    within_above (suc n) x y e = above_by x y _ (has_body x) (λ k.
        let r = parent_heir (impl_within h has_body chosen a n) x y (chosen x) refl k in by_parent r.0 r.1 (within_above n r.0 y r.2)) e

    -- who answers is an ancestor
    pub implementation_above : (x y : K) → impl h has_body chosen a x ≡ Some y → Descends h x y
    implementation_above x y e = within_above (h.height x) x y e

    module _ (tells : Tells h) (falls : Falls h) where
      below_heir : (f : K → Option K) (x y : K) (c : Option K) → chosen x ≡ c → inherits h a f c (h.parents x) ≡ Some y → (p : K) × Descends h p a × (f p ≡ Some y)
      below_heir f x y None is e =
          let r = first_from (λ p. if descends h p a then f p else None) (h.parents x) y e in
          let q = if_asked (descends h r.0 a) (f r.0) y r.2 in
          (r.0, (descends_test h tells falls r.0 a).0 q.0, q.1)
      below_heir f x y (Some p) is e = (p, picks.below x p is, e)

      below_by : (x y : K) (r : Option K) (b : Bool) → Descends h x a → (r ≡ Some y → Descends h y a) → (if b then Some x else r) ≡ Some y → Descends h y a
      below_by x y r true d f e = let here : x ≡ y = cc in subst (λ z. Descends h z a) here d
      below_by x y r false d f e = f e

      within_below : (n : ℕ) (x y : K) → Descends h x a → impl_within h has_body chosen a n x ≡ Some y → Descends h y a
      within_below zero x y d e = below_by x y None (has_body x) d (λ k. absurd (cc)) e
      within_below (suc n) x y d e = below_by x y _ (has_body x) d (λ k.
          let r = below_heir (impl_within h has_body chosen a n) x y (chosen x) refl k in within_below n r.0 y r.1 r.2) e

      -- who answers descends from the introducing class
      pub implementation_below : (x y : K) → Descends h x a → impl h has_body chosen a x ≡ Some y → Descends h y a
      implementation_below x y d e = within_below (h.height x) x y d e

      -- where each parent that descends from A has an answer, and some parent does, there is something to inherit
      inherited : (f : K → Option K) (x : K) (c : Option K) → chosen x ≡ c → ((p : K) → Mem p (h.parents x) → Descends h p a → IsSome (f p)) → (p : K) → Mem p (h.parents x) → Descends h p a → IsSome (inherits h a f c (h.parents x))
      inherited f x None is there p m d = first_there (λ q. if descends h q a then f q else None) p (h.parents x) m
          (let t : descends h p a ≡ true = (descends_test h tells falls p a).1 d in subst (λ (b : Bool). IsSome (if b then f p else None)) (sym t) (there p m d))
      inherited f x (Some q) is there p m d = there q (picks.parent x q is) (picks.below x q is)

      answered : has_body a ≡ true → (n : ℕ) (x : K) → Descends h x a → h.height x ≤ n → IsSome (impl_within h has_body chosen a n x)
      answered own n x itself le = own_answers n x own
      answered own zero x (by_parent p m d) le = absurd (omega (arith, falls x p m))
      answered own (suc n) x (by_parent p m d) le =
          own_or (has_body x) x _ (inherited (impl_within h has_body chosen a n) x (chosen x) refl (λ q k e.
          let lower : h.height q ≤ n = omega (arith, falls x q k) in answered own n q e lower) p m d)

      -- some class answers
      pub implementation_exists : has_body a ≡ true → (x : K) → Descends h x a → IsSome (impl h has_body chosen a x)
      implementation_exists own x d = answered own (h.height x) x d (omega arith)

      leftmost_by : has_body a ≡ true → (x : K) (c : Option K)
          → inherits h a (impl h has_body chosen a) c (h.parents x) ≡ option_and_then (impl h has_body chosen a) (or_else c (find (λ p. descends h p a) (h.parents x)))
      leftmost_by own x None = first_chosen (λ p. descends h p a) (impl h has_body chosen a) (h.parents x) (λ p m t. implementation_exists own p ((descends_test h tells falls p a).0 t))
      leftmost_by own x (Some p) = refl

      -- a class with a body, or else what the chosen parent answers, or where none is chosen the leftmost that descends
      pub implementation_leftmost : has_body a ≡ true → (x : K)
          → impl h has_body chosen a x ≡ (if has_body x then Some x else option_and_then (impl h has_body chosen a) (or_else (chosen x) (find (λ p. descends h p a) (h.parents x))))
      implementation_leftmost own x = implementation_step h falls has_body chosen a picks x ∙ ap (λ o. if has_body x then Some x else o) (leftmost_by own x (chosen x))

      not_below : (x p : K) → Mem p (h.parents x) → descends h x a ≡ false → (b : Bool) → descends h p a ≡ b → (if b then impl h has_body chosen a p else None) ≡ None
      not_below x p k m true e = absurd (true≢false (sym ((descends_test h tells falls x a).1 (by_parent p k ((descends_test h tells falls p a).0 e))) ∙ m))
      not_below x p k m false e = refl

      none_inherited : (x : K) → descends h x a ≡ false → (c : Option K) → chosen x ≡ c → inherits h a (impl h has_body chosen a) c (h.parents x) ≡ None
      none_inherited x m None is = first_none (answer h has_body chosen a) (h.parents x) (λ p k. not_below x p k m (descends h p a) refl)
      none_inherited x m (Some p) is = absurd (true≢false (sym ((descends_test h tells falls x a).1 (by_parent p (picks.parent x p is) (picks.below x p is))) ∙ m))

      answer_by : (x : K) (o : Option K) (b c : Bool) → has_body x ≡ b → descends h x a ≡ c → (has_body x ≡ true → Descends h x a) → (descends h x a ≡ false → o ≡ None)
          → (if c then (if b then Some x else o) else None) ≡ or_else (if b then Some x else None) o
      answer_by x o true true e m d n = refl
      answer_by x o false true e m d n = refl
      answer_by x o true false e m d n = absurd (true≢false (sym ((descends_test h tells falls x a).1 (d e)) ∙ m))
      answer_by x o false false e m d n = sym (n m)

      -- a class where it has a body, else what it inherits
      pub answer_step : (x : K) → (has_body x ≡ true → Descends h x a) → answer h has_body chosen a x ≡ or_else (if has_body x then Some x else None) (inherits h a (impl h has_body chosen a) (chosen x) (h.parents x))
      answer_step x d = ap (λ o. if descends h x a then o else None) (implementation_step h falls has_body chosen a picks x)
          ∙ answer_by x (inherits h a (impl h has_body chosen a) (chosen x) (h.parents x)) (has_body x) (descends h x a) refl refl d (λ m. none_inherited x m (chosen x) refl)

      -- a method of a proper ancestor is inherited
      pub parents_answer : has_body a ≡ true → (x : K) → Descends h x a → (x ≡ a → ⊥) → IsSome (inherits h a (impl h has_body chosen a) (chosen x) (h.parents x))
      parents_answer own x itself n = absurd (n refl)
      parents_answer own x (by_parent p m d) n = inherited (impl h has_body chosen a) x (chosen x) refl (λ q k e. implementation_exists own q e) p m d

      -- where a class descends from A, the two answers are one
      pub answer_some : (x : K) → Descends h x a → answer h has_body chosen a x ≡ impl h has_body chosen a x
      answer_some x d = let t : descends h x a ≡ true = (descends_test h tells falls x a).1 d in ap (λ b. if b then impl h has_body chosen a x else None) t

-- who chooses nothing chooses well
pub none_chosen : {K : Type 0} (h : Hierarchy K) (a : K) → Chooses h (λ k. None) a
none_chosen h a = record { parent = λ x p e. absurd (cc); below = λ x p e. absurd (cc) }

-- a name means the first ancestor that introduces it
pub byname_found : {K : Type 0} (h : Hierarchy K) (introduces : K → Bool) (x a : K) → (byname h introduces x ≡ Some a) ↔ IsFirst introduces (anc h x) a
byname_found h introduces x a = (find_first introduces (anc h x) a, first_find introduces (anc h x) a)

-- and nothing where none introduces it
pub byname_none : {K : Type 0} (h : Hierarchy K) (introduces : K → Bool) (x : K) → (byname h introduces x ≡ None) ↔ ((a : K) → Mem a (anc h x) → introduces a ≡ false)
byname_none h introduces x = (find_none introduces (anc h x), none_find introduces (anc h x))

-- the test on keys tells them apart
pub key_test : (a b : ClassKey) → (same_key a b ≡ true) ↔ (a ≡ b)
key_test a b = (exact_keys.two a b, λ e. subst (λ k. same_key a k ≡ true) e (exact_keys.one a))

pub listed_first : (listed introduced : List (List ℕ)) → take (length listed) (effective_order listed introduced) ≡ listed
listed_first listed introduced = take_front listed (without (λ name. among name listed) introduced)

-- the added names are the introduced ones that the list misses
pub added_are : (listed introduced : List (List ℕ)) → added listed introduced ≡ without (λ name. among name listed) introduced
added_are listed introduced = drop_front listed (without (λ name. among name listed) introduced)

-- the test of a name among names
pub among_mem : (name : List ℕ) (names : List (List ℕ)) → (among name names ≡ true) ↔ Mem name names
among_mem name names = (λ e. (let r = some_mem (bytes_eq name) names e in subst (λ z. Mem z names) (sym (exact_bytes.two name r.0 r.2)) r.1), λ m. mem_some (bytes_eq name) name names m (exact_bytes.one name))

introduced_by : (listed introduced : List (List ℕ)) (name : List ℕ) → Mem name introduced → (b : Bool) → among name listed ≡ b → Mem name (effective_order listed introduced)
introduced_by listed introduced name m true e = mem_left name listed _ ((among_mem name listed).0 e)
introduced_by listed introduced name m false e = mem_right name listed _ (mem_without (λ n. among n listed) name introduced (λ t. true≢false (sym t ∙ e)) m)

-- each introduced name stands in the order
pub introduced_in : (listed introduced : List (List ℕ)) (name : List ℕ) → Mem name introduced → Mem name (effective_order listed introduced)
introduced_in listed introduced name m = introduced_by listed introduced name m (among name listed) refl

-- no listed name is added again
pub listed_once : (listed introduced : List (List ℕ)) (name : List ℕ) → Mem name listed → Mem name (added listed introduced) → ⊥
listed_once listed introduced name m k = true≢false (sym ((among_mem name listed).1 m) ∙ without_fails (λ n. among n listed) name introduced (subst (λ l. Mem name l) (added_are listed introduced) k))

-- the added names keep their order
pub added_thins : (listed introduced : List (List ℕ)) → IsThinned (added listed introduced) introduced
added_thins listed introduced = subst (λ l. IsThinned l introduced) (sym (added_are listed introduced)) (without_thins (λ name. among name listed) introduced)
