-- The ancestors of a class are itself, those of its first parent in their order, and the others; so the variables of these stand as in the objects of the first parent, after the class's own.
use Rattle.std.proofs.Common.{◌≡◌, ℕ, ◌+◌, ◌-◌, ◌≤◌, inl, inr, Bool, true, false, if◌then◌else◌, List, [], ◌∷◌, ◌++◌, map, length, nat_lt, ◌^◌, length-append, refl, sym, ap, ◌∙◌, subst, arith}
use Rattle.std.specs.Prelude.{flat_map}
use Rattle.som_model.specs.Lists.{Mem, firsts, joined, without}
use Rattle.som_model.specs.Hierarchy.{Hierarchy, Tells, Falls}
use Rattle.som_model.specs.Ancestors.{Descends, itself, by_parent, anc}
use Rattle.som_model_laws.proofs.Laws.{ancestors, ancestors_apart, ancestors_step}
use Rattle.som_model_laws.proofs.Members.{Apart, not_true}
use Rattle.som_class_layout_laws.specs.Places.{before, less}

-- ---- lists

kept_more : {A : Type 0} (b : Bool) (x : A) (xs ys zs : List A) → xs ≡ ys ++ zs → (if b then xs else x ∷ xs) ≡ (if b then ys else x ∷ ys) ++ zs
kept_more true x xs ys zs e = e
kept_more false x xs ys zs e = ap (λ l. x ∷ l) e

without_append : {A : Type 0} (test : A → Bool) (xs ys : List A) → without test (xs ++ ys) ≡ without test xs ++ without test ys
without_append test [] ys = refl
without_append test (x ∷ xs) ys = kept_more (test x) x (without test (xs ++ ys)) (without test xs) (without test ys) (without_append test xs ys)

without_none : {A : Type 0} (test : A → Bool) (xs : List A) → ((y : A) → Mem y xs → test y ≡ false) → without test xs ≡ xs
without_none test [] f = refl
without_none test (x ∷ xs) f =
    ap (λ (b : Bool). if b then without test xs else x ∷ without test xs) (f x (inl refl)) ∙ ap (λ l. x ∷ l) (without_none test xs (λ y m. f y (inr m)))

module _ {K : Type 0} (h : Hierarchy K) (tells : Tells h) where
  -- a name is told apart from those of a list in which it isn't
  other_named : (a : K) (xs : List K) → (Mem a xs → ⊥) → (y : K) → Mem y xs → h.same a y ≡ false
  other_named a xs f y m = not_true (h.same a y) (λ e. f (subst (λ z. Mem z xs) (sym (tells.two a y e)) m))

  -- the first occurrences of a list begin with a front in which nothing stands twice
  firsts_append : (xs ys : List K) → Apart xs → (rest : List K) × (firsts h.same (xs ++ ys) ≡ xs ++ rest)
  firsts_append [] ys apart = (firsts h.same ys, refl)
  firsts_append (a ∷ xs) ys apart =
      let r = firsts_append xs ys apart.1 in
      let kept : without (h.same a) xs ≡ xs = without_none (h.same a) xs (other_named a xs apart.0) in
      (without (h.same a) r.0, ap (λ l. a ∷ without (h.same a) l) r.1 ∙ ap (λ l. a ∷ l) (without_append (h.same a) xs r.0 ∙ ap (λ l. l ++ without (h.same a) r.0) kept))

  module _ (falls : Falls h) where
    -- who is above stands no higher
    no_higher : (x a : K) → Descends h x a → h.height a ≤ h.height x
    no_higher x _ itself = omega arith
    no_higher x a (by_parent p m d) = let low = falls x p m in let rest = no_higher p a d in omega (arith, low, rest)

    -- no class is above its parent
    pub not_above : (x p : K) → Mem p (h.parents x) → Mem x (anc h p) → ⊥
    not_above x p m k = let low = falls x p m in let high = no_higher p x ((ancestors h tells falls p x).0 k) in omega (arith, low, high)

    -- the ancestors of a class with a parent
    pub first_ancestors : (x p : K) (ps : List K) → h.parents x ≡ p ∷ ps → (rest : List K) × (anc h x ≡ x ∷ (anc h p ++ rest))
    first_ancestors x p ps is =
        let all = joined (map (anc h) ps) in
        let r = firsts_append (anc h p) all (ancestors_apart h tells p) in
        let m : Mem p (h.parents x) = subst (λ l. Mem p l) (sym is) (inl refl) in
        let kept : without (h.same x) (anc h p) ≡ anc h p = without_none (h.same x) (anc h p) (other_named x (anc h p) (not_above x p m)) in (
          without (h.same x) r.0,
          ancestors_step h falls x ∙ ap (λ l. firsts h.same (x ∷ joined (map (anc h) l))) is
              ∙ ap (λ l. x ∷ without (h.same x) l) r.1
              ∙ ap (λ l. x ∷ l) (without_append (h.same x) (anc h p) r.0 ∙ ap (λ l. l ++ without (h.same x) r.0) kept),
        )

-- ---- places

module _ {K V : Type 0} (h : Hierarchy K) (tells : Tells h) (own : K → List V) where
  -- what stands before a class that is one of a front
  pub before_front : (a : K) (xs ys : List K) → Mem a xs → before h.same own a (xs ++ ys) ≡ before h.same own a xs
  before_front a [] ys m = absurd m
  before_front a (x ∷ xs) ys (inl is) =
      let one : h.same a x ≡ true = subst (λ z. h.same a z ≡ true) is (tells.one a) in
      ap (λ (b : Bool). if b then 0 else length (own x) + before h.same own a (xs ++ ys)) one ∙ sym (ap (λ (b : Bool). if b then 0 else length (own x) + before h.same own a xs) one)
  before_front a (x ∷ xs) ys (inr m) = ap (λ n. if h.same a x then 0 else length (own x) + n) (before_front a xs ys m)

  -- and of one behind a front in which it isn't
  pub before_behind : (a : K) (xs ys : List K) → (Mem a xs → ⊥) → before h.same own a (xs ++ ys) ≡ length (flat_map own xs) + before h.same own a ys
  before_behind a [] ys f = (let z : before h.same own a ys ≡ 0 + before h.same own a ys = omega arith in z)
  before_behind a (x ∷ xs) ys f =
      let no : h.same a x ≡ false = not_true (h.same a x) (λ e. f (inl (tells.two a x e))) in
      let sum : length (own x) + (length (flat_map own xs) + before h.same own a ys) ≡ (length (own x) + length (flat_map own xs)) + before h.same own a ys = omega arith in
      ap (λ (b : Bool). if b then 0 else length (own x) + before h.same own a (xs ++ ys)) no
      ∙ ap (λ n. length (own x) + n) (before_behind a xs ys (λ m. f (inr m)))
      ∙ sum ∙ ap (λ n. n + before h.same own a ys) (sym (length-append (own x) (flat_map own xs)))

-- so much later in a row of so much more is the same cell
pub less_later : (n shift place : ℕ) → less (n + shift) (n + place) ≡ less shift place
less_later n shift place =
    let same : nat_lt (n + place) (n + shift) ≡ nat_lt place shift = grind arith in
    ap (λ (b : Bool). if b then n + place + 2 ^ 32 - (n + shift) else n + place - (n + shift)) same ∙ by (nat_lt place shift)
  where
    by : (b : Bool) → (if b then n + place + 2 ^ 32 - (n + shift) else n + place - (n + shift)) ≡ (if b then place + 2 ^ 32 - shift else place - shift)
    by true = omega arith
    by false = omega arith
