-- Whether a place is on a list, asked of the list from either side.
use Rattle.std.proofs.Common.{◌≡◌, ℕ, ◌==◌, Bool, true, false, if◌then◌else◌, List, [], ◌∷◌, ◌||◌, refl, sym, ap, ◌∙◌}
use Rattle.std.proofs.lemmas.Bool.{eqb-true, eq-eqb}
use Rattle.std.specs.List.{list_any}
use Rattle.som_model.specs.Lists.{some}
use Rattle.som_model_laws.proofs.Members.{both_or_none}

-- equality of places goes both ways
turned : (a b : ℕ) → (b == a) ≡ (a == b)
turned a b = both_or_none (b == a) (a == b) (λ e. eq-eqb a b (sym (eqb-true b a e))) (λ e. eq-eqb b a (sym (eqb-true a b e)))

either : (b : Bool) (x y : Bool) → x ≡ y → (b || x) ≡ (if b then true else y)
either true x y e = refl
either false x y e = e

-- a list that has some equal place has the place
pub has_equal : (p : ℕ) (xs : List ℕ) → list_any (λ y. y == p) xs ≡ some (λ a. p == a) xs
has_equal p [] = refl
has_equal p (x ∷ xs) = ap (λ z. z || list_any (λ y. y == p) xs) (turned p x) ∙ either (p == x) (list_any (λ y. y == p) xs) (some (λ a. p == a) xs) (has_equal p xs)
