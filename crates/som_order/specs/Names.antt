-- Names that are borrowed.
use Rattle.std.specs.Prelude.{ℕ, List, map, slice_index_or, []}
use Rattle.std.specs.Borrow.{Bor}

-- the names themselves
abbrev pub texts : List (Bor (List ℕ)) → List (List ℕ)
texts names = map (λ name. name.now) names

-- the name at a place
abbrev pub name_at : List (List ℕ) → ℕ → List ℕ
name_at names place = slice_index_or names place []
