-- Classes as numbers, with a row for each that has the numbers of its parents from left to right.
use Rattle.std.specs.Prelude.{ℕ, ◌==◌, Bool, false, List, [], Option, None, slice_get, unwrap_or}
use Rattle.som_model.specs.Hierarchy.{Hierarchy}

-- the row of a class, and no parents where there is none
abbrev pub parents_of : List (List ℕ) → ℕ → List ℕ
parents_of rows x = unwrap_or (slice_get rows x) []

-- the hierarchy of the rows, where a class is as high as its number
abbrev pub hierarchy_of : List (List ℕ) → Hierarchy ℕ
hierarchy_of rows = record { parents = parents_of rows; height = λ x. x; same = ◌==◌ }

-- whether the class at a place has a body
abbrev pub body_at : List Bool → ℕ → Bool
body_at bodies x = unwrap_or (slice_get bodies x) false

-- the parent that the class at a place chooses, if any
abbrev pub choice_at : List (Option ℕ) → ℕ → Option ℕ
choice_at choices x = unwrap_or (slice_get choices x) None
