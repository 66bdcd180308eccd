-- Lists of which one item is exchanged.
use Rattle.std.proofs.Common.{◌≡◌, ℕ, zero, suc, ◌+◌, ◌<◌, ◌⊎◌, inl, inr, List, [], ◌∷◌, ◌++◌, length, map, set, get_or, Option, Some, refl, sym, ap, ◌∙◌, arith}
use Rattle.std.specs.Prelude.{◌≢◌, slice_get}
use Rattle.std.specs.List.{sum_by}
use Rattle.std.proofs.lemmas.Option.{get_or_from_slice_get, slice_get_within}
use Rattle.std.proofs.lemmas.List.Sums.{sum_by-set}

pub same_some : {A : Type 0} (a b : A) → ◌≡◌ {A = Option A} (Some a) (Some b) → a ≡ b
same_some a b e = cc

pub there_set : {A : Type 0} (xs : List A) (i : ℕ) (y : A) → i < length xs → slice_get (set xs i y) i ≡ Some y
there_set [] i y lt = absurd (omega (arith, lt))
there_set (x ∷ xs) zero y lt = refl
there_set (x ∷ xs) (suc i) y lt = there_set xs i y (omega (arith, lt))

pub there_else : {A : Type 0} (xs : List A) (i j : ℕ) (y : A) → i ≢ j → slice_get (set xs i y) j ≡ slice_get xs j
there_else [] i j y ne = refl
there_else (x ∷ xs) zero zero y ne = absurd (ne refl)
there_else (x ∷ xs) zero (suc j) y ne = refl
there_else (x ∷ xs) (suc i) zero y ne = refl
there_else (x ∷ xs) (suc i) (suc j) y ne = there_else xs i j y (λ e. ne (ap suc e))

-- what is at the place is what was put there
pub is_set : {A : Type 0} (xs : List A) (i : ℕ) (y z : A) → i < length xs → slice_get (set xs i y) i ≡ Some z → z ≡ y
is_set xs i y z lt at = same_some z y (sym at ∙ there_set xs i y lt)

-- what no exchange changes
pub map_kept : {A B : Type 0} (f : A → B) (xs : List A) (i : ℕ) (x y : A) → slice_get xs i ≡ Some x → f y ≡ f x → map f (set xs i y) ≡ map f xs
map_kept f [] i x y at e = refl
map_kept f (z ∷ xs) zero x y at e = ap (λ b. b ∷ map f xs) (e ∙ ap f (sym (same_some z x at)))
map_kept f (z ∷ xs) (suc i) x y at e = ap (λ bs. f z ∷ bs) (map_kept f xs i x y at e)

-- a sum that grows with one item
pub sum_more : {A : Type 0} (f : A → ℕ) (xs : List A) (i : ℕ) (x y : A) (more : ℕ) → slice_get xs i ≡ Some x → f y ≡ f x + more → sum_by f (set xs i y) ≡ sum_by f xs + more
sum_more f xs i x y more at e =
    let lt : i < length xs = slice_get_within xs i x at in
    let s : sum_by f (set xs i y) + f (get_or xs i x) ≡ sum_by f xs + f y = sum_by-set f xs i y x lt in
    let g : f (get_or xs i x) ≡ f x = ap f (get_or_from_slice_get xs i x x at) in
    omega (arith, s, g, e)

-- there is an item at each place
pub at_place : {A : Type 0} (xs : List A) (i : ℕ) → i < length xs → (x : A) × (slice_get xs i ≡ Some x)
at_place [] i lt = absurd (omega (arith, lt))
at_place (x ∷ xs) zero lt = (x, refl)
at_place (x ∷ xs) (suc i) lt = at_place xs i (omega (arith, lt))

-- what is at a place after one more was put at the end
pub push_cases : {A : Type 0} (xs : List A) (x y : A) (i : ℕ) → slice_get (xs ++ x ∷ []) i ≡ Some y → (slice_get xs i ≡ Some y) ⊎ ((i ≡ length xs) × (y ≡ x))
push_cases [] x y zero at = inr (refl, sym (same_some x y at))
push_cases [] x y (suc i) at = absurd (let z = at in cc)
push_cases (z ∷ xs) x y zero at = inl at
push_cases (z ∷ xs) x y (suc i) at = elim (push_cases xs x y i at) [ inl a ↦ inl a | inr e ↦ inr (ap suc e.0, e.1) ]
