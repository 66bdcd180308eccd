-- Lists whose members differ, and tokens in lists.
use Rattle.std.proofs.Common.{◌≡◌, ◌⊎◌, ℕ, zero, suc, inl, inr, List, [], ◌∷◌, map, Some, slice_get, refl, sym, ap, ◌∙◌, subst}
use Rattle.std.specs.Prelude.{flat_map}
use Rattle.std.specs.List.{AllByRecursion}
use Rattle.std.proofs.lemmas.Bool.{cases_eq}
use Rattle.som_model.specs.Lists.{Mem}
use Rattle.som_model_laws.proofs.Members.{Apart}
use Rattle.som_model_laws.proofs.Lists.{apart_both, get_mem, map_mem, mem_map}
use Rattle.som_class_layout_laws.proofs.Members.{flat_member}

-- whose images differ, differ
pub apart_of_map : {A B : Type 0} (f : A → B) (xs : List A) → Apart (map f xs) → Apart xs
apart_of_map f [] o = tt
apart_of_map f (x ∷ xs) o = ((λ m. o.0 (mem_map f x xs m)), apart_of_map f xs o.1)

pub apart_map : {A B : Type 0} (f : A → B) (xs : List A) → ((x y : A) → Mem x xs → Mem y xs → f x ≡ f y → x ≡ y) → Apart xs → Apart (map f xs)
apart_map f [] one o = tt
apart_map f (x ∷ xs) one o = (
  (λ m. let r = map_mem f (f x) xs m in o.0 (subst (λ z. Mem z xs) (sym (one x r.0 (inl refl) (inr r.1) r.2)) r.1)),
  apart_map f xs (λ a b m n e. one a b (inr m) (inr n) e) o.1,
)

pub apart_flat : {A B : Type 0} (f : A → List B) (xs : List A) → Apart xs → ((x : A) → Mem x xs → Apart (f x)) → ((x y : A) (b : B) → Mem b (f x) → Mem b (f y) → x ≡ y) → Apart (flat_map f xs)
apart_flat f [] o each one = tt
apart_flat f (x ∷ xs) o each one =
    apart_both (f x) (flat_map f xs) (each x (inl refl)) (apart_flat f xs o.1 (λ y m. each y (inr m)) one)
    (λ b m n. let r = flat_member f b xs n in o.0 (subst (λ z. Mem z xs) (sym (one x r.0 b m r.2)) r.1))

-- each stands at one place
pub one_place : {A : Type 0} (xs : List A) → Apart xs → (i j : ℕ) (x : A) → slice_get xs i ≡ Some x → slice_get xs j ≡ Some x → i ≡ j
one_place [] o i j x a b = absurd (cc)
one_place (y ∷ xs) o zero zero x a b = refl
one_place (y ∷ xs) o zero (suc j) x a b = let is : y ≡ x = cc in absurd (o.0 (subst (λ z. Mem z xs) (sym is) (get_mem xs j x b)))
one_place (y ∷ xs) o (suc i) zero x a b = let is : y ≡ x = cc in absurd (o.0 (subst (λ z. Mem z xs) (sym is) (get_mem xs i x a)))
one_place (y ∷ xs) o (suc i) (suc j) x a b = ap suc (one_place xs o.1 i j x a b)

cases_token : (t u : ℕ × ℕ) → (t ≡ u) ⊎ (t ≡ u → ⊥)
cases_token t u = elim (cases_eq t.0 u.0) [
  | inl a ↦ elim (cases_eq t.1 u.1) [
    | inl b ↦ inl (ap (λ n. (n, t.1)) a ∙ ap (λ n. (u.0, n)) b)
    | inr ne ↦ inr (λ e. ne (ap (λ (z : ℕ × ℕ). z.1) e))
  ]
  | inr ne ↦ inr (λ e. ne (ap (λ (z : ℕ × ℕ). z.0) e))
]

-- a token is one of these, or not
pub token_in : (t : ℕ × ℕ) (ts : List (ℕ × ℕ)) → Mem t ts ⊎ (Mem t ts → ⊥)
token_in t [] = inr (λ m. m)
token_in t (u ∷ ts) = elim (cases_token t u) [
  | inl e ↦ inl (inl e)
  | inr ne ↦ elim (token_in t ts) [ inl m ↦ inl (inr m) | inr no' ↦ inr (λ m. elim m [ inl e ↦ ne e | inr n ↦ no' n ]) ]
]

pub all_mem : {A : Type 0} (P : A → Type 0) (xs : List A) → AllByRecursion P xs → (x : A) → Mem x xs → P x
all_mem P [] all x m = absurd m
all_mem P (y ∷ xs) all x (inl is) = subst P (sym is) all.0
all_mem P (y ∷ xs) all x (inr m) = all_mem P xs all.1 x m

pub mem_all : {A : Type 0} (P : A → Type 0) (xs : List A) → ((x : A) → Mem x xs → P x) → AllByRecursion P xs
mem_all P [] f = tt
mem_all P (x ∷ xs) f = (f x (inl refl), mem_all P xs (λ y m. f y (inr m)))
