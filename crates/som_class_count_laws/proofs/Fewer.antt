-- A list of different items of another is no longer than that.
use Rattle.std.proofs.Common.{◌≡◌, ℕ, suc, ◌≤◌, ◌+◌, ◌*◌, inl, inr, List, [], ◌∷◌, ◌++◌, flat_map, length, Some, slice_get, refl, sym, ap, ◌∙◌, subst, arith}
use Rattle.std.proofs.Math.Nat.{suc-mul, zero-mul}
use Rattle.som_model.specs.Lists.{Mem}
use Rattle.som_model_laws.proofs.Lists.{mem_get}
use Rattle.som_model_laws.proofs.Members.{Apart}

-- a list without one of its items
pub less_one : {A : Type 0} (a : A) (ys : List A) → Mem a ys → (zs : List A) × (length ys ≡ suc (length zs)) × ((b : A) → Mem b ys → (b ≡ a → ⊥) → Mem b zs)
less_one a [] m = absurd m
less_one a (y ∷ ys) (inl e) = (ys, refl, λ b n other. elim n [ inl f ↦ absurd (other (f ∙ sym e)) | inr k ↦ k ])
less_one a (y ∷ ys) (inr m) =
    let r = less_one a ys m in
    (y ∷ r.0, ap suc r.1, λ b n other. elim n [ inl f ↦ inl f | inr k ↦ inr (r.2 b k other) ])

pub no_longer : {A : Type 0} (xs ys : List A) → Apart xs → ((a : A) → Mem a xs → Mem a ys) → length xs ≤ length ys
no_longer [] ys apart in_ys = omega arith
no_longer {A} (x ∷ xs) ys apart in_ys =
    let r = less_one x ys (in_ys x (inl refl)) in
    let rest = no_longer xs r.0 apart.1 (λ a m. r.2 a (in_ys a (inr m)) (λ e. apart.0 (subst (λ (z : A). Mem z xs) e m))) in
    let long = r.1 in
    omega (arith, rest, long)

-- where no item stands at two places, none stands twice
pub once_apart : {A : Type 0} (xs : List A) → ((i j : ℕ) (a : A) → slice_get xs i ≡ Some a → slice_get xs j ≡ Some a → i ≡ j) → Apart xs
once_apart [] once = tt
once_apart (x ∷ xs) once = (
  λ m. (let r = mem_get xs x m in let e : 0 ≡ suc r.0 = once 0 (suc r.0) x refl r.1 in cc),
  once_apart xs (λ i j a e f. let g : suc i ≡ suc j = once (suc i) (suc j) a e f in omega (arith, g)),
)

pub both_length : {B : Type 0} (us vs : List B) → length (us ++ vs) ≡ length us + length vs
both_length [] vs = omega arith
both_length (u ∷ us) vs = let r = both_length us vs in omega (arith, r)

plus : (t u v m n : ℕ) → t ≡ u + v → u ≡ n → v ≡ m → t ≡ m + n
plus t u v m n e f g = omega (arith, e, f, g)

-- lists of one length, one for each item
pub joined_length : {A B : Type 0} (f : A → List B) (n : ℕ) → ((a : A) → length (f a) ≡ n) → (xs : List A) → length (flat_map f xs) ≡ length xs * n
joined_length f n each [] = sym (zero-mul n)
joined_length f n each (x ∷ xs) =
    plus (length (f x ++ flat_map f xs)) (length (f x)) (length (flat_map f xs)) (length xs * n) n (both_length (f x) (flat_map f xs)) (each x) (joined_length f n each xs)
    ∙ sym (suc-mul (length xs) n)
