-- What holds of each of a list at its place, and the first of which it doesn't hold.
use Rattle.std.specs.Prelude.{◌≡◌, ◌<◌, ℕ, List, Some, slice_get}

-- P of each, at its place
abbrev pub HoldsOfEach : {A : Type 0} → (ℕ → A → Type 0) → List A → Type 0
HoldsOfEach {A} P xs = (i : ℕ) (y : A) → slice_get xs i ≡ Some y → P i y

-- x stands at this place, P doesn't hold of it, and P holds of each that stands before it
pub record IsFirstAt {A : Type 0} (P : ℕ → A → Type 0) (xs : List A) (place : ℕ) (x : A) : Type 0 where
  pub there : slice_get xs place ≡ Some x
  pub fails : P place x → ⊥
  pub before : (i : ℕ) (y : A) → i < place → slice_get xs i ≡ Some y → P i y
