-- What holds of the items of a list by their places.
use Rattle.std.proofs.Common.{◌≡◌, ℕ, zero, suc, List, [], ◌∷◌, ◌++◌, length, slice_get, Option, Some, subst, arith}
use Rattle.std.specs.Prelude.{All}

some_is : {A : Type 0} (x y : A) → ◌≡◌ {A = Option A} (Some x) (Some y) → x ≡ y
some_is x y e = cc

-- one item more
pub one_more : {A : Type 0} (P : ℕ → A → Type 0) (xs : List A) (x : A) → ((i : ℕ) (y : A) → slice_get xs i ≡ Some y → P i y) → P (length xs) x → (i : ℕ) (y : A) → slice_get (xs ++ x ∷ []) i ≡ Some y → P i y
one_more P [] x each p zero y e = subst (P 0) (some_is x y e) p
one_more P [] x each p (suc i) y e = absurd cc
one_more P (z ∷ zs) x each p zero y e = each 0 y e
one_more P (z ∷ zs) x each p (suc i) y e = one_more (λ j. P (suc j)) zs x (λ j. each (suc j)) p i y e

-- what holds of all holds at each place
pub at_each : {A : Type 0} (P : A → Type 0) (xs : List A) → All P xs → (i : ℕ) (y : A) → slice_get xs i ≡ Some y → P y
at_each P [] all i y e = absurd cc
at_each P (x ∷ xs) all zero y e = subst P (some_is x y e) (all 0 x (omega arith))
at_each P (x ∷ xs) all (suc i) y e = at_each P xs (λ j d lt. all (suc j) d (omega (arith, lt))) i y e
