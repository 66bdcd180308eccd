-- Marks on places, and which classes they stand for.
use Rattle.std.specs.Prelude.{◌≡◌, ◌<◌, ◌+◌, ◌⊎◌, ℕ, suc, Bool, true, false, if◌then◌else◌, List, [], ◌∷◌, map, length, slice_index_or, Option, Some, None}
use Rattle.som_model.specs.declared.key.ClassKey.{ClassKey}
use Rattle.som_model.specs.Lists.{Mem}
use Rattle.som_model.specs.Ancestors.{Descends}
use Rattle.som_model.specs.Class.{Class}
use Rattle.som_model.specs.Classes.{hierarchy, is_a}
use Rattle.som_verify_classes.specs.Places.{key_at}
use Rattle.som_model_laws.specs.Rows.{rows_of}
use Rattle.som_compat.specs.declared.rows.Row.{Row}
use Rattle.som_compat.specs.Views.{numbers_of}

abbrev pub Marked : List Bool → ℕ → Type 0
Marked marks k = slice_index_or marks k false ≡ true

-- the places of the parents of each class
abbrev pub lists_of : List Row → List (List ℕ)
lists_of rows = map numbers_of rows

-- a class descends from another, by their places
abbrev pub Above : List Row → ℕ → ℕ → Type 0
Above rows x a = Descends (rows_of (lists_of rows)) x a

-- each parent stands before its class
abbrev pub AreLow : List Row → Type 0
AreLow rows = (x p : ℕ) → Mem p (slice_index_or (lists_of rows) x []) → p < x

-- some marked class descends from it
pub record IsReached (rows : List Row) (marks : List Bool) (a : ℕ) : Type 0 where
  pub start : ℕ
  pub marked : Marked marks start
  pub above : Above rows start a

-- whether some of these is marked
abbrev pub some_marked : List ℕ → List Bool → Bool
some_marked [] marks = false
some_marked (p ∷ ps) marks = if slice_index_or marks p false then true else some_marked ps marks

-- how many are marked
abbrev pub count : List Bool → ℕ
count [] = 0
count (b ∷ bs) = if b then suc (count bs) else count bs

-- the marks tell from which classes one descends
pub record AreAbove (cs : List Class) (x : ClassKey) (marks : List Bool) : Type 0 where
  pub by : (q : ℕ) → q < length cs → slice_index_or marks q false ≡ is_a cs x (key_at cs q)

-- the number of the first of these from which a class doesn't descend, counted from n
abbrev pub lost_from : List Class → ClassKey → ℕ → List ClassKey → Option ℕ
lost_from cs x n [] = None
lost_from cs x n (k ∷ ks) = if is_a cs x k then lost_from cs x (n + 1) ks else Some n

-- the marks are those of a class, and of the classes from which one of these descends
pub record IsFront (cs : List Class) (own : ℕ) (front : List ClassKey) (marks : List Bool) : Type 0 where
  pub within : (q : ℕ) → Marked marks q → q < length cs
  pub sound : (q : ℕ) → Marked marks q → (q ≡ own) ⊎ ((k : ClassKey) × Mem k front × Descends (hierarchy cs) k (key_at cs q))
  pub itself : Marked marks own
  pub whole : (q : ℕ) (k : ClassKey) → q < length cs → Mem k front → Descends (hierarchy cs) k (key_at cs q) → Marked marks q
