-- Rows that are filled place by place.
use Rattle.std.proofs.Common.{◌≡◌, ℕ, zero, suc, ◌+◌, ◌<◌, inl, inr, List, [], ◌∷◌, ◌++◌, length, take, map, slice_set, slice_index_or, refl, sym, ap, ◌∙◌, subst, arith}
use Rattle.som_model.specs.declared.key.ClassKey.{ClassKey}
use Rattle.som_model.specs.Lists.{Mem}
use Rattle.som_model.specs.Class.{Class}
use Rattle.som_model_laws.proofs.Members.{mem_split}
use Rattle.som_verify_classes.specs.Places.{key_at}

pub set_take : {A : Type 0} (xs : List A) (i : ℕ) (x : A) → i < length xs → take (i + 1) (slice_set xs i x) ≡ take i xs ++ x ∷ []
set_take [] i x lt = absurd (omega arith)
set_take (y ∷ ys) zero x lt = refl
set_take (y ∷ ys) (suc i) x lt = let e : suc i + 1 ≡ suc (i + 1) = omega arith in rw e (ap (λ z. y ∷ z) (set_take ys i x (omega arith)))

pub next_take : {A : Type 0} (xs : List A) (i : ℕ) (x : A) → i < length xs → x ≡ slice_index_or xs i x → take (i + 1) xs ≡ take i xs ++ x ∷ []
next_take [] i x lt is = absurd (omega arith)
next_take (y ∷ ys) zero x lt is = ap (λ z. z ∷ []) (sym is)
next_take (y ∷ ys) (suc i) x lt is = let e : suc i + 1 ≡ suc (i + 1) = omega arith in rw e (ap (λ z. y ∷ z) (next_take ys i x (omega arith) is))

map_last : {A B : Type 0} (f : A → B) (xs : List A) (x : A) → map f (xs ++ x ∷ []) ≡ map f xs ++ f x ∷ []
map_last f [] x = refl
map_last f (y ∷ ys) x = ap (λ z. f y ∷ z) (map_last f ys x)

pub row_more : (cs : List Class) (numbers : List ℕ) (n i p : ℕ) (ks : List ClassKey) (k : ClassKey) → n < length numbers → n ≡ i → i < length ks → k ≡ slice_index_or ks i k → key_at cs p ≡ k
    → map (key_at cs) (take n numbers) ≡ take i ks → map (key_at cs) (take (n + 1) (slice_set numbers n p)) ≡ take (i + 1) ks
row_more cs numbers n i p ks k ln same lk is key before =
    ap (map (key_at cs)) (set_take numbers n p ln) ∙ map_last (key_at cs) (take n numbers) p
    ∙ ap (λ z. z ++ key_at cs p ∷ []) before ∙ ap (λ z. take i ks ++ z ∷ []) key ∙ sym (next_take ks i k lk is)

pub low_more : (cs : List Class) (numbers : List ℕ) (n p : ℕ) → n < length numbers → p < length cs → ((q : ℕ) → Mem q (take n numbers) → q < length cs)
    → (q : ℕ) → Mem q (take (n + 1) (slice_set numbers n p)) → q < length cs
low_more cs numbers n p ln lt low q m = elim (mem_split q (take n numbers) (p ∷ []) (subst (λ z. Mem q z) (set_take numbers n p ln) m)) [
  | inl k ↦ low q k
  | inr k ↦ elim k [ inl e ↦ omega (arith, e, lt) | inr z ↦ absurd z ]
]

pub take_mem : {A : Type 0} (a : A) (n : ℕ) (xs : List A) → Mem a (take n xs) → Mem a xs
take_mem a zero xs m = absurd m
take_mem a (suc n) [] m = absurd m
take_mem a (suc n) (x ∷ xs) (inl e) = inl e
take_mem a (suc n) (x ∷ xs) (inr m) = inr (take_mem a n xs m)
