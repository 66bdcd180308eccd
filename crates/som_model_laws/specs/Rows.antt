-- Hierarchies of places: the parents of each place, its ancestors, and marks on these.
use Rattle.std.specs.Prelude.{◌≡◌, ℕ, suc, ◌<◌, ◌==◌, Bool, false, List, [], length, slice_index_or}
use Rattle.som_model.specs.Lists.{Mem, some}
use Rattle.som_model.specs.Hierarchy.{Hierarchy}
use Rattle.som_model.specs.Ancestors.{anc}

-- the hierarchy of the rows, where a class is higher than its place
abbrev pub rows_of : List (List ℕ) → Hierarchy ℕ
rows_of rows = record { parents = λ x. slice_index_or rows x []; height = λ x. suc x; same = ◌==◌ }

-- each parent stands before
abbrev pub AreLow : List (List ℕ) → Type 0
AreLow rows = (i p : ℕ) → Mem p (slice_index_or rows i []) → p < i

-- the marks are those of the list's members
pub record AreMarks (marks : List Bool) (list : List ℕ) : Type 0 where
  pub by : (k : ℕ) → k < length marks → slice_index_or marks k false ≡ some (λ x. k == x) list

-- the ancestors of the first n classes
pub record AreAncestors (rows : List (List ℕ)) (n : ℕ) (all : List (List ℕ)) : Type 0 where
  pub long : length all ≡ n
  pub by : (i : ℕ) → i < n → slice_index_or all i [] ≡ anc (rows_of rows) i
