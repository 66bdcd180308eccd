-- Lists by their places.
use Rattle.std.proofs.Common.{◌≡◌, ◌⊎◌, ℕ, zero, suc, ◌+◌, ◌<◌, ◌≤◌, inl, inr, List, [], ◌∷◌, ◌++◌, length, drop, Some, slice_get, slice_index_or, refl, sym, ap, ◌∙◌, arith}
use Rattle.std.proofs.lemmas.Bool.{cases_lt}

pub drop_at : {A : Type 0} (xs : List A) (i : ℕ) (d : A) → i < length xs → drop i xs ≡ slice_index_or xs i d ∷ drop (i + 1) xs
drop_at [] i d lt = absurd (omega arith)
drop_at (x ∷ xs) zero d lt = refl
drop_at (x ∷ xs) (suc i) d lt = let e : suc i + 1 ≡ suc (i + 1) = omega arith in rw e (drop_at xs i d (omega arith))

pub drop_end : {A : Type 0} (xs : List A) (i : ℕ) → length xs ≤ i → drop i xs ≡ []
drop_end [] zero le = refl
drop_end [] (suc i) le = refl
drop_end (x ∷ xs) zero le = absurd (omega arith)
drop_end (x ∷ xs) (suc i) le = drop_end xs i (omega arith)

pub long_last : {A : Type 0} (xs : List A) (x : A) → length (xs ++ x ∷ []) ≡ length xs + 1
long_last [] x = omega arith
long_last (y ∷ ys) x = let e = long_last ys x in omega (arith, e)

pub last_before : {A : Type 0} (xs : List A) (x d : A) (i : ℕ) → i < length xs → slice_index_or (xs ++ x ∷ []) i d ≡ slice_index_or xs i d
last_before [] x d i lt = absurd (omega arith)
last_before (y ∷ ys) x d zero lt = refl
last_before (y ∷ ys) x d (suc i) lt = last_before ys x d i (omega arith)

pub last_here : {A : Type 0} (xs : List A) (x d : A) (i : ℕ) → i ≡ length xs → slice_index_or (xs ++ x ∷ []) i d ≡ x
last_here [] x d zero e = refl
last_here [] x d (suc i) e = absurd (omega (arith, e))
last_here (y ∷ ys) x d zero e = absurd (omega (arith, e))
last_here (y ∷ ys) x d (suc i) e = last_here ys x d i (omega (arith, e))

pub less_next : (i n : ℕ) → i < n + 1 → (i < n) ⊎ (i ≡ n)
less_next i n lt = elim (cases_lt i n) [ inl less ↦ inl less | inr ge ↦ inr (omega (arith, lt, ge)) ]

-- what holds at each place before the last, and at the last
pub each_last : {A : Type 0} (P : ℕ → A → Type 0) (xs : List A) (x d : A) → ((i : ℕ) → i < length xs → P i (slice_index_or xs i d)) → P (length xs) x → (i : ℕ) → i < length xs + 1 → P i (slice_index_or (xs ++ x ∷ []) i d)
each_last P xs x d before here i lt = elim (less_next i (length xs) lt) [
  | inl less ↦ rw (last_before xs x d i less) (before i less)
  | inr e ↦ rw (last_here xs x d i e, e) here
]

pub get_at : {A : Type 0} (xs : List A) (i : ℕ) (d : A) → i < length xs → slice_get xs i ≡ Some (slice_index_or xs i d)
get_at [] i d lt = absurd (omega arith)
get_at (x ∷ xs) zero d lt = refl
get_at (x ∷ xs) (suc i) d lt = get_at xs i d (omega arith)

pub at_get : {A : Type 0} (xs : List A) (i : ℕ) (x d : A) → slice_get xs i ≡ Some x → (i < length xs) × (slice_index_or xs i d ≡ x)
at_get [] i x d e = absurd (cc)
at_get (y ∷ ys) zero x d e = (omega arith, cc)
at_get (y ∷ ys) (suc i) x d e = let r = at_get ys i x d e in (omega (arith, r.0), r.1)

-- an item that a loop has in hand
pub item_get : {A : Type 0} (xs : List A) (i : ℕ) (x : A) → i < length xs → x ≡ slice_index_or xs i x → slice_get xs i ≡ Some x
item_get xs i x lt is = get_at xs i x lt ∙ ap (λ z. Some z) (sym is)
