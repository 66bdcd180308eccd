-- Names that are compared piece by piece.
use Rattle.std.proofs.Common.{◌≡◌, ◌≢◌, ℕ, Bool, true, false, ◌&&◌, nat_eq, List, [], ◌∷◌, ◌++◌, refl, ap, ◌∙◌, arith}
use Rattle.std.specs.Str.{bytes_eq}
use Rattle.std.proofs.lemmas.Slice.Eq.{bytes_eq-Decides}

one_self : (n : ℕ) → nat_eq n n ≡ true
one_self n = grind arith

-- what both begin with may be taken off
pub same_front : (front a b : List ℕ) → bytes_eq (front ++ a) (front ++ b) ≡ bytes_eq a b
same_front [] a b = refl
same_front (x ∷ front) a b = ap (λ t. t && bytes_eq (front ++ a) (front ++ b)) (one_self x) ∙ same_front front a b

not_true : (b : Bool) → (b ≡ true → ⊥) → b ≡ false
not_true true h = absurd (h refl)
not_true false h = refl

-- what doesn't begin with a piece is no text that does
pub differs : (text piece more : List ℕ) → ((u : List ℕ) → text ≢ piece ++ u) → bytes_eq text (piece ++ more) ≡ false
differs text piece more h = not_true (bytes_eq text (piece ++ more)) (λ e. h more ((bytes_eq-Decides text (piece ++ more)).0 e))
