-- The deepest of levels so far.
use Rattle.std.proofs.Common.{◌≡◌, ℕ, zero, suc, ◌+◌, ◌<◌, ◌≤◌, max, List, [], ◌∷◌, ◌++◌, length, take, refl, sym, ◌∙◌, ap, inl, inr, arith}
use Rattle.std.proofs.lemmas.Bool.{cases_lt}
use Rattle.som_body.specs.Levels.{top, down}

pub top_append : (l m : List ℕ) → top (l ++ m) ≡ max (top l) (top m)
top_append [] m = omega arith
top_append (n ∷ l) m = let e = top_append l m in omega (arith, e)

pub top_down : (n : ℕ) (l : List ℕ) → top (down (n ∷ l)) ≡ suc (max n (top l))
top_down n [] = omega arith
top_down n (k ∷ l) = let e = top_down k l in omega (arith, e)

-- the levels of a construct with these levels inside
pub level_eq : (l : List ℕ) (k : ℕ) → top l ≡ k → top (down (0 ∷ l)) ≡ k + 1
level_eq l k e = omega (arith, e, top_down 0 l)

-- those of an operand that is pushed one level down, and what follows it
pub pushed_eq : (l m : List ℕ) (h k : ℕ) → top l ≡ h → top m ≡ k → top (l ++ down (top l ∷ m)) ≡ max h k + 1
pushed_eq l m h k e f = omega (arith, e, f, top_append l (down (top l ∷ m)), top_down (top l) m)

pub down_low : (l : List ℕ) (d : ℕ) → top l ≤ d → top (down l) ≤ suc d
down_low [] d le = omega arith
down_low (n ∷ l) d le = omega (arith, le, top_down n l)

pub down_high : (l : List ℕ) (d : ℕ) → d < top l → suc d < top (down l)
down_high [] d lt = absurd (omega (arith, lt))
down_high (n ∷ l) d lt = omega (arith, lt, top_down n l)

pub up_low : (l : List ℕ) (d : ℕ) → top (down l) ≤ suc d → top l ≤ d
up_low l d le = elim (cases_lt d (top l)) [ inl lt ↦ absurd (omega (arith, le, down_high l d lt)) | inr low ↦ low ]

pub up_high : (l : List ℕ) (d : ℕ) → suc d < top (down l) → d < top l
up_high l d lt = elim (cases_lt d (top l)) [ inl high ↦ high | inr le ↦ absurd (omega (arith, lt, down_low l d le)) ]

pub take_down : (n : ℕ) (l : List ℕ) → take n (down l) ≡ down (take n l)
take_down zero l = refl
take_down (suc n) [] = refl
take_down (suc n) (k ∷ l) = ap (λ m. suc k ∷ m) (take_down n l)

pub length_down : (l : List ℕ) → length (down l) ≡ length l
length_down [] = refl
length_down (n ∷ l) = ap suc (length_down l)

pub take_first : (n : ℕ) (l m : List ℕ) → n ≤ length l → take n (l ++ m) ≡ take n l
take_first zero l m le = refl
take_first (suc n) [] m le = absurd (omega (arith, le))
take_first (suc n) (k ∷ l) m le = ap (λ x. k ∷ x) (take_first n l m (omega (arith, le)))

pub take_later : (l m : List ℕ) (n : ℕ) → take (length l + n) (l ++ m) ≡ l ++ take n m
take_later [] m n = let e : 0 + n ≡ n = omega arith in ap (λ i. take i m) e
take_later (k ∷ l) m n = let e : suc (length l) + n ≡ suc (length l + n) = omega arith in ap (λ i. take i (k ∷ (l ++ m))) e ∙ ap (λ x. k ∷ x) (take_later l m n)

pub take_all : (n : ℕ) (l : List ℕ) → length l ≤ n → take n l ≡ l
take_all zero [] le = refl
take_all zero (k ∷ l) le = absurd (omega (arith, le))
take_all (suc n) [] le = refl
take_all (suc n) (k ∷ l) le = ap (λ x. k ∷ x) (take_all n l (omega (arith, le)))

pub top_take : (n m : ℕ) (l : List ℕ) → n ≤ m → top (take n l) ≤ top (take m l)
top_take zero m l le = omega arith
top_take (suc n) zero l le = absurd (omega (arith, le))
top_take (suc n) (suc m) [] le = omega arith
top_take (suc n) (suc m) (k ∷ l) le = let e = top_take n m l (omega (arith, le)) in omega (arith, e)

pub top_part : (n : ℕ) (l : List ℕ) → top (take n l) ≤ top l
top_part zero l = omega arith
top_part (suc n) [] = omega arith
top_part (suc n) (k ∷ l) = let e = top_part n l in omega (arith, e)

pub down_top : (l : List ℕ) → 0 < top l → top (down l) ≡ suc (top l)
down_top [] lt = absurd (omega (arith, lt))
down_top (n ∷ l) lt = top_down n l

down_append : (l m : List ℕ) → down (l ++ m) ≡ down l ++ down m
down_append [] m = refl
down_append (n ∷ l) m = ap (λ x. suc n ∷ x) (down_append l m)

pub down_pushed : (l m : List ℕ) → top (down l) ≡ suc (top l) → down l ++ suc (top (down l)) ∷ down m ≡ down (l ++ suc (top l) ∷ m)
down_pushed l m e = ap (λ n. down l ++ suc n ∷ down m) e ∙ sym (down_append l (suc (top l) ∷ m))
