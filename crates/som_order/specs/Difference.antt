-- Where the names of two release orders part.
use Rattle.std.specs.Prelude.{◌≡◌, ℕ, ◌+◌, if◌then◌else◌, List, [], ◌∷◌, ◌++◌, take, slice_get, Option, Some, None}
use Rattle.std.specs.Str.{bytes_eq}

-- the first place, counted from n, at which the new names end or have another name than the old ones
abbrev pub first_difference : ℕ → List (List ℕ) → List (List ℕ) → Option ℕ
first_difference n [] news = None
first_difference n (x ∷ olds) [] = Some n
first_difference n (x ∷ olds) (y ∷ news) = if bytes_eq x y then first_difference (n + 1) olds news else Some n

-- the old names begin the new ones
pub record IsPrefix (olds news : List (List ℕ)) : Type 0 where
  pub more : List (List ℕ)
  pub parts : news ≡ olds ++ more

-- the names before the place are equal, and at the place there is an old name that the new ones don't have there
pub record PartsAt (olds news : List (List ℕ)) (place : ℕ) : Type 0 where
  pub before : take place olds ≡ take place news
  pub name : List ℕ
  pub old : slice_get olds place ≡ Some name
  pub new : slice_get news place ≡ Some name → ⊥
