-- Members and places of lists, and the first that passes a test in lists that are joined.
use Rattle.std.proofs.Common.{◌≡◌, ℕ, zero, suc, ◌+◌, ◌<◌, inl, inr, Bool, true, false, if◌then◌else◌, List, [], ◌∷◌, ◌++◌, map, flat_map, take, Option, Some, None, slice_get, refl, sym, ap, ◌∙◌, subst, arith, true≢false}
use Rattle.som_model.specs.declared.key.ClassKey.{ClassKey}
use Rattle.som_model.specs.Lists.{Mem, doubles, every, find, option_list, place_from, some}
use Rattle.som_model.specs.Keys.{same_key}
use Rattle.som_model.specs.Class.{Class}
use Rattle.som_model.proofs.KeyLaws.{Exact, exact_keys}
use Rattle.som_model_laws.proofs.Members.{Apart, mem_left, mem_right, mem_split, mem_some, not_true, find_first}
use Rattle.som_model.specs.Loads.{keys_of}

pub get_mem : {A : Type 0} (xs : List A) (i : ℕ) (x : A) → slice_get xs i ≡ Some x → Mem x xs
get_mem [] i x e = absurd (cc)
get_mem (y ∷ ys) zero x e = let same : y ≡ x = cc in inl (sym same)
get_mem (y ∷ ys) (suc i) x e = inr (get_mem ys i x e)

pub mem_get : {A : Type 0} (xs : List A) (x : A) → Mem x xs → (i : ℕ) × (slice_get xs i ≡ Some x)
mem_get [] x m = absurd m
mem_get (y ∷ ys) x (inl e) = (0, ap (λ z. Some z) (sym e))
mem_get (y ∷ ys) x (inr m) = let r = mem_get ys x m in (suc r.0, r.1)

pub take_get : {A : Type 0} (n : ℕ) (xs : List A) (j : ℕ) (x : A) → slice_get (take n xs) j ≡ Some x → (j < n) × (slice_get xs j ≡ Some x)
take_get zero xs j x e = absurd (cc)
take_get (suc n) [] j x e = absurd (cc)
take_get (suc n) (y ∷ ys) zero x e = (omega arith, e)
take_get (suc n) (y ∷ ys) (suc j) x e = let r = take_get n ys j x e in (omega (arith, r.0), r.1)

pub mem_map : {A B : Type 0} (f : A → B) (x : A) (xs : List A) → Mem x xs → Mem (f x) (map f xs)
mem_map f x [] m = m
mem_map f x (y ∷ xs) (inl e) = inl (ap f e)
mem_map f x (y ∷ xs) (inr m) = inr (mem_map f x xs m)

pub map_mem : {A B : Type 0} (f : A → B) (b : B) (xs : List A) → Mem b (map f xs) → (x : A) × Mem x xs × (b ≡ f x)
map_mem f b [] m = absurd m
map_mem f b (x ∷ xs) (inl e) = (x, inl refl, e)
map_mem f b (x ∷ xs) (inr m) = let r = map_mem f b xs m in (r.0, inr r.1, r.2)

pub option_mem : {A : Type 0} (o : Option A) (k : A) → Mem k (option_list o) → o ≡ Some k
option_mem None k m = absurd m
option_mem (Some x) k (inl e) = ap (λ z. Some z) (sym e)
option_mem (Some x) k (inr m) = absurd m

-- members of the lists that a function gives

pub flat_mem : {A B : Type 0} (f : A → List B) (b : B) (xs : List A) → Mem b (flat_map f xs) → (a : A) × Mem a xs × Mem b (f a)
flat_mem f b [] m = absurd m
flat_mem f b (x ∷ xs) m = elim (mem_split b (f x) (flat_map f xs) m) [
  | inl k ↦ (x, inl refl, k)
  | inr k ↦ (let r = flat_mem f b xs k in (r.0, inr r.1, r.2))
]

pub mem_flat : {A B : Type 0} (f : A → List B) (b : B) (a : A) (xs : List A) → Mem a xs → Mem b (f a) → Mem b (flat_map f xs)
mem_flat f b a [] m k = absurd m
mem_flat f b a (x ∷ xs) (inl e) k = mem_left b (f x) (flat_map f xs) (subst (λ z. Mem b (f z)) e k)
mem_flat f b a (x ∷ xs) (inr m) k = mem_right b (f x) (flat_map f xs) (mem_flat f b a xs m k)

-- a test that each member passes

every_by : {A : Type 0} (test : A → Bool) (x a : A) (xs : List A) (b : Bool) → test x ≡ b → (every test xs ≡ true → Mem a xs → test a ≡ true)
    → (if b then every test xs else false) ≡ true → Mem a (x ∷ xs) → test a ≡ true
every_by test x a xs true t f e (inl is) = ap test is ∙ t
every_by test x a xs true t f e (inr m) = f e m
every_by test x a xs false t f e m = absurd (true≢false (sym e))

pub every_mem : {A : Type 0} (test : A → Bool) (a : A) (xs : List A) → every test xs ≡ true → Mem a xs → test a ≡ true
every_mem test a [] e m = absurd m
every_mem test a (x ∷ xs) e m = every_by test x a xs (test x) refl (every_mem test a xs) e m

pub mem_every : {A : Type 0} (test : A → Bool) (xs : List A) → ((a : A) → Mem a xs → test a ≡ true) → every test xs ≡ true
mem_every test [] f = refl
mem_every test (x ∷ xs) f = let here : test x ≡ true = f x (inl refl) in rw here (mem_every test xs (λ a m. f a (inr m)))

-- finding

pub find_mem : {A : Type 0} (test : A → Bool) (xs : List A) (a : A) → find test xs ≡ Some a → Mem a xs × (test a ≡ true)
find_mem test xs a e = let r = find_first test xs a e in (subst (λ z. Mem a z) (sym r.parts) (mem_right a r.before (a ∷ r.after) (inl refl)), r.passes)

pub find_left : {A : Type 0} (test : A → Bool) (xs ys : List A) (a : A) → find test xs ≡ Some a → find test (xs ++ ys) ≡ Some a
find_left test [] ys a e = absurd (cc)
find_left test (x ∷ xs) ys a e = by (test x) e (find_left test xs ys a)
  where
    by : (b : Bool) → (if b then Some x else find test xs) ≡ Some a → (find test xs ≡ Some a → find test (xs ++ ys) ≡ Some a) → (if b then Some x else find test (xs ++ ys)) ≡ Some a
    by true e f = e
    by false e f = f e

pub find_right : {A : Type 0} (test : A → Bool) (xs ys : List A) → find test xs ≡ None → find test (xs ++ ys) ≡ find test ys
find_right test [] ys e = refl
find_right test (x ∷ xs) ys e = by (test x) e (find_right test xs ys)
  where
    by : (b : Bool) → (if b then Some x else find test xs) ≡ None → (find test xs ≡ None → find test (xs ++ ys) ≡ find test ys) → (if b then Some x else find test (xs ++ ys)) ≡ find test ys
    by true e f = absurd (cc)
    by false e f = f e

pub none_place : {A : Type 0} (n : ℕ) (test : A → Bool) (xs : List A) → find test xs ≡ None → place_from n test xs ≡ None
none_place n test [] e = refl
none_place n test (x ∷ xs) e = by (test x) e (none_place (suc n) test xs)
  where
    by : (b : Bool) → (if b then Some x else find test xs) ≡ None → (find test xs ≡ None → place_from (suc n) test xs ≡ None) → (if b then Some n else place_from (suc n) test xs) ≡ None
    by true e f = absurd (cc)
    by false e f = f e

-- keys that differ

pub apart_both : {A : Type 0} (xs ys : List A) → Apart xs → Apart ys → ((a : A) → Mem a xs → Mem a ys → ⊥) → Apart (xs ++ ys)
apart_both [] ys p q f = q
apart_both (x ∷ xs) ys p q f = (
  (λ m. elim (mem_split x xs ys m) [ inl l ↦ p.0 l | inr r ↦ f x (inl refl) r ]),
  apart_both xs ys p.1 q (λ a m n. f a (inr m) n),
)

module _ {A : Type 0} (same : A → A → Bool) (exact : Exact same) where
  doubles_by : (b : Bool) (x : A) (before xs : List A) → some (same x) before ≡ b
      → (doubles same (before ++ x ∷ []) xs ≡ [] → Apart xs × ((a : A) → Mem a (before ++ x ∷ []) → Mem a xs → ⊥))
      → (if b then x ∷ doubles same before xs else doubles same (before ++ x ∷ []) xs) ≡ []
      → Apart (x ∷ xs) × ((a : A) → Mem a before → Mem a (x ∷ xs) → ⊥)
  doubles_by true x before xs t f e = absurd (cc)
  doubles_by false x before xs t f e =
      let r = f e in (
        ((λ m. r.1 x (mem_right x before (x ∷ []) (inl refl)) m), r.0),
        (λ a m k. elim k [
          | inl is ↦ (let h = mem_some (same x) a before m (ap (same x) is ∙ exact.one x) in cc)
          | inr n ↦ r.1 a (mem_left a before (x ∷ []) m) n
        ]),
      )

  doubles_none : (before xs : List A) → doubles same before xs ≡ [] → Apart xs × ((a : A) → Mem a before → Mem a xs → ⊥)
  doubles_none before [] e = (tt, λ a m k. k)
  doubles_none before (x ∷ xs) e = doubles_by (some (same x) before) x before xs refl (doubles_none (before ++ x ∷ []) xs) e

  pub doubles_apart : (xs : List A) → doubles same [] xs ≡ [] → Apart xs
  doubles_apart xs e = (doubles_none [] xs e).0

pub find_at : (k : ClassKey) (cs : List Class) (c : Class) → Apart (keys_of cs) → Mem c cs → c.key ≡ k → find (λ (z : Class). same_key z.key k) cs ≡ Some c
find_at k [] c o m f = absurd m
find_at k (x ∷ cs) c o (inl e) f =
    let t : same_key x.key k ≡ true = ap (λ (z : Class). same_key z.key k) (sym e) ∙ ap (λ z. same_key z k) f ∙ exact_keys.one k in rw t (ap (λ z. Some z) (sym e))
find_at k (x ∷ cs) c o (inr m) f =
    let other : same_key x.key k ≡ false = not_true (same_key x.key k) (λ t. o.0 (subst (λ z. Mem z (keys_of cs)) (f ∙ sym (exact_keys.two x.key k t)) (mem_map (λ (z : Class). z.key) c cs m))) in
    rw other (find_at k cs c o.1 m f)

pub place_at : (n : ℕ) (k : ClassKey) (cs : List Class) (i : ℕ) (c : Class) → Apart (keys_of cs) → slice_get cs i ≡ Some c → c.key ≡ k → place_from n (λ (z : Class). same_key z.key k) cs ≡ Some (i + n)
place_at n k [] i c o e f = absurd (cc)
place_at n k (x ∷ cs) zero c o e f =
    let is : x ≡ c = cc in
    let t : same_key x.key k ≡ true = ap (λ (z : Class). same_key z.key k) is ∙ ap (λ z. same_key z k) f ∙ exact_keys.one k in
    let sum : n ≡ 0 + n = omega arith in
    rw t (ap (λ z. Some z) sum)
place_at n k (x ∷ cs) (suc i) c o e f =
    let other : same_key x.key k ≡ false = not_true (same_key x.key k) (λ t.
    o.0 (subst (λ z. Mem z (keys_of cs)) (f ∙ sym (exact_keys.two x.key k t)) (mem_map (λ (z : Class). z.key) c cs (get_mem cs i c e)))) in
    let sum : i + suc n ≡ suc i + n = omega arith in
    rw other (place_at (suc n) k cs i c o.1 e f ∙ ap (λ z. Some z) sum)
