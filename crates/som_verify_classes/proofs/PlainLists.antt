-- Lists of breaches that are empty, and what they say of the members.
use Rattle.std.proofs.Common.{◌≡◌, ◌↔◌, ℕ, zero, suc, inl, inr, Bool, true, false, not, if◌then◌else◌, List, [], ◌∷◌, ◌++◌, map, flat_map, take, Some, None, slice_get, refl, sym, ap, ◌∙◌, subst, arith, append_assoc}
use Rattle.std.proofs.lemmas.List.{append-nil, map-append}
use Rattle.std.specs.Str.{bytes_eq}
use Rattle.som_model.specs.Lists.{Mem, first, doubles, some, among}
use Rattle.som_model.specs.Class.{Class}
use Rattle.som_model.specs.Conforming.{each_after}
use Rattle.som_model.specs.Rules.{RuleBreach, name_of, s1}
use Rattle.som_model.proofs.KeyLaws.{Exact}
use Rattle.som_model_laws.proofs.Members.{mem_left, mem_right, mem_some, Apart, apart_doubles}
use Rattle.som_verify_classes.specs.Plainly.{Differ}
use Rattle.som_verify_classes.proofs.Before.{both_none}
use Rattle.som_verify_classes.proofs.Owners.{flat_none}

pub none_flat : {A B : Type 0} (f : A → List B) (xs : List A) → ((x : A) → Mem x xs → first (f x) ≡ None) → first (flat_map f xs) ≡ None
none_flat f [] g = refl
none_flat f (x ∷ xs) g = both_none (f x) (flat_map f xs) (g x (inl refl)) (none_flat f xs (λ y m. g y (inr m)))

pub mem_map : {A B : Type 0} (f : A → B) (x : A) (xs : List A) → Mem x xs → Mem (f x) (map f xs)
mem_map f x [] m = m
mem_map f x (y ∷ xs) (inl e) = inl (ap f e)
mem_map f x (y ∷ xs) (inr m) = inr (mem_map f x xs m)

pub map_mem : {A B : Type 0} (f : A → B) (b : B) (xs : List A) → Mem b (map f xs) → (x : A) × Mem x xs × (b ≡ f x)
map_mem f b [] m = absurd m
map_mem f b (x ∷ xs) (inl e) = (x, inl refl, e)
map_mem f b (x ∷ xs) (inr m) = let r = map_mem f b xs m in (r.0, inr r.1, r.2)

-- a rule at each class
pub each_says : (one : Class → List RuleBreach) (cs : List Class) → first (flat_map one cs) ≡ None → (c : Class) → Mem c cs → first (one c) ≡ None
each_says one cs e c m = flat_none one cs c e m

pub says_each : (one : Class → List RuleBreach) (cs : List Class) → ((c : Class) → Mem c cs → first (one c) ≡ None) → first (flat_map one cs) ≡ None
says_each one cs f = none_flat one cs f

pub says_after : (rule : List Class → Class → List RuleBreach) (k : List Class) (cs : List Class)
    → ((i : ℕ) (c : Class) → slice_get cs i ≡ Some c → first (rule (k ++ take i cs) c) ≡ None) → first (each_after rule k cs) ≡ None
says_after rule k [] f = refl
says_after rule k (c ∷ cs) f =
    both_none (rule k c) (each_after rule (k ++ c ∷ []) cs)
    (subst (λ (z : List Class). first (rule z c) ≡ None) (append-nil k) (f 0 c refl))
    (says_after rule (k ++ c ∷ []) cs (λ i e at.
    subst (λ (z : List Class). first (rule z e) ≡ None) (sym (append_assoc k (c ∷ []) (take i cs))) (f (suc i) e at)))

-- nothing stands a second time

pub none_map : {A B : Type 0} (f : A → B) (xs : List A) → first (map f xs) ≡ None → xs ≡ []
none_map f [] e = refl
none_map f (x ∷ xs) e = absurd (cc)

pub map_none : {A B : Type 0} (f : A → B) (xs : List A) → xs ≡ [] → first (map f xs) ≡ None
map_none f xs e = ap (λ z. first (map f z)) e

module _ {A : Type 0} (same : A → A → Bool) (exact : Exact same) where
  doubles_by : (b : Bool) (x : A) (before xs : List A) → some (same x) before ≡ b
      → (doubles same (before ++ x ∷ []) xs ≡ [] → Apart xs × ((a : A) → Mem a (before ++ x ∷ []) → Mem a xs → ⊥))
      → (if b then x ∷ doubles same before xs else doubles same (before ++ x ∷ []) xs) ≡ []
      → Apart (x ∷ xs) × ((a : A) → Mem a before → Mem a (x ∷ xs) → ⊥)
  doubles_by true x before xs t f e = absurd (cc)
  doubles_by false x before xs t f e =
      let r = f e in (
        ((λ m. r.1 x (mem_right x before (x ∷ []) (inl refl)) m), r.0),
        (λ a m k. elim k [
          | inl is ↦ (let h = mem_some (same x) a before m (ap (same x) is ∙ exact.one x) in cc)
          | inr n ↦ r.1 a (mem_left a before (x ∷ []) m) n
        ]),
      )

  doubles_none : (before xs : List A) → doubles same before xs ≡ [] → Apart xs × ((a : A) → Mem a before → Mem a xs → ⊥)
  doubles_none before [] e = (tt, λ a m k. k)
  doubles_none before (x ∷ xs) e = doubles_by (some (same x) before) x before xs refl (doubles_none (before ++ x ∷ []) xs) e

  pub apart_by : (xs : List A) → doubles same [] xs ≡ [] → Apart xs
  apart_by xs e = (doubles_none [] xs e).0

  pub fresh_by : (before xs : List A) → doubles same before xs ≡ [] → (a : A) → Mem a before → Mem a xs → ⊥
  fresh_by before xs e = (doubles_none before xs e).1

  pub apart_after : (before xs : List A) → doubles same before xs ≡ [] → Apart xs
  apart_after before xs e = (doubles_none before xs e).0

  pub by_apart : (xs : List A) → Apart xs → doubles same [] xs ≡ []
  by_apart xs o = apart_doubles same exact.two [] xs (λ a m k. m) o

place_mem : {A B : Type 0} (f : A → B) (xs : List A) (i : ℕ) (x : A) → slice_get xs i ≡ Some x → Mem (f x) (map f xs)
place_mem f [] i x e = absurd (cc)
place_mem f (y ∷ xs) zero x e = let same : y ≡ x = cc in inl (ap f (sym same))
place_mem f (y ∷ xs) (suc i) x e = inr (place_mem f xs i x e)

mem_place : {A B : Type 0} (f : A → B) (b : B) (xs : List A) → Mem b (map f xs) → (i : ℕ) × (x : A) × (slice_get xs i ≡ Some x) × (b ≡ f x)
mem_place f b [] m = absurd m
mem_place f b (x ∷ xs) (inl e) = (0, x, refl, e)
mem_place f b (x ∷ xs) (inr m) = let r = mem_place f b xs m in (suc r.0, r.1, r.2, r.3)

differ_by : {A B : Type 0} (f : A → B) (xs : List A) → Apart (map f xs) → (i j : ℕ) (x y : A) → slice_get xs i ≡ Some x → slice_get xs j ≡ Some y → f x ≡ f y → i ≡ j
differ_by f [] o i j x y a b e = absurd (cc)
differ_by f (z ∷ xs) o zero zero x y a b e = refl
differ_by f (z ∷ xs) o zero (suc j) x y a b e =
    let here : z ≡ x = cc in absurd (o.0 (subst (λ w. Mem w (map f xs)) (sym e ∙ ap f (sym here)) (place_mem f xs j y b)))
differ_by f (z ∷ xs) o (suc i) zero x y a b e =
    let here : z ≡ y = cc in absurd (o.0 (subst (λ w. Mem w (map f xs)) (e ∙ ap f (sym here)) (place_mem f xs i x a)))
differ_by f (z ∷ xs) o (suc i) (suc j) x y a b e = ap suc (differ_by f xs o.1 i j x y a b e)

pub apart_differ : {A B : Type 0} (f : A → B) (xs : List A) → Apart (map f xs) → Differ f xs
apart_differ f xs o = record { by = differ_by f xs o }

pub differ_apart : {A B : Type 0} (f : A → B) (xs : List A) → Differ f xs → Apart (map f xs)
differ_apart f [] d = tt
differ_apart f (x ∷ xs) d = (
  (λ m. (let r = mem_place f (f x) xs m in let e = d.by 0 (suc r.0) x r.1 refl r.2 r.3 in omega (arith, e))),
  differ_apart f xs (record { by = λ i j y z a b e. (let s = d.by (suc i) (suc j) y z a b e in omega (arith, s)) }),
)

-- the names of classes

s1_by : (b : Bool) (x : RuleBreach) (rest : List RuleBreach) (name : List ℕ) (tail more : List (List ℕ)) → (first rest ≡ None) ↔ (more ≡ [])
    → (first ((if not b then [] else x ∷ []) ++ rest) ≡ None) ↔ ((if b then name ∷ tail else more) ≡ [])
s1_by true x rest name tail more f = (λ e. absurd (cc), λ e. absurd (cc))
s1_by false x rest name tail more f = f

pub s1_doubles : (before cs : List Class) → (first (each_after s1 before cs) ≡ None) ↔ (doubles bytes_eq (map name_of before) (map name_of cs) ≡ [])
s1_doubles before [] = (λ e. refl, λ e. refl)
s1_doubles before (c ∷ cs) =
    s1_by (among (name_of c) (map name_of before)) _ (each_after s1 (before ++ c ∷ []) cs) (name_of c) (doubles bytes_eq (map name_of before) (map name_of cs)) _
    (subst (λ (z : List (List ℕ)). (first (each_after s1 (before ++ c ∷ []) cs) ≡ None) ↔ (doubles bytes_eq z (map name_of cs) ≡ [])) (map-append name_of before (c ∷ [])) (s1_doubles (before ++ c ∷ []) cs))
