-- Which classes are still to be made, and in which order.
use Rattle.std.specs.Prelude.{◌≡◌, ◌↔◌, ◌⊎◌, ℕ, ◌<◌, Bool, true, false, List, [], ◌∷◌, take, Some, slice_get, slice_index_or}
use Rattle.som_model.specs.Lists.{Mem}
use Rattle.som_model.specs.Classes.{parents_of}
use Rattle.som_model.specs.Made.{ComesOf}
use Rattle.som_model.specs.Metaclass.{meta, rank}
use Rattle.som_meta.specs.Numbering.{IsNumbered, Numbering, key_at}

-- the mark of this number is set
abbrev pub IsMarked : List Bool → ℕ → Type 0
IsMarked marks n = slice_index_or marks n false ≡ true

-- what has to be made for a class: itself, and with each class its parents and its metaclass
abbrev pub IsNeeded : Numbering → ℕ → ℕ → Type 0
IsNeeded k x n = ComesOf k.classes (key_at k x ∷ []) (key_at k n)

-- m is a parent of n, or its metaclass
abbrev pub IsNeedOf : Numbering → ℕ → ℕ → Type 0
IsNeedOf k n m = IsNumbered k m × (Mem (key_at k m) (parents_of k.classes (key_at k n)) ⊎ (key_at k m ≡ meta k.classes (key_at k n)))

-- with each class that is there its parents are there, and its metaclass
abbrev pub HaveNeeds : Numbering → (ℕ → Type 0) → Type 0
HaveNeeds k There = (n m : ℕ) → There n → IsNeedOf k n m → There m

-- a class of lower rank stands before another, and of one rank that of the lower number
abbrev pub StandsBefore : Numbering → ℕ → ℕ → Type 0
StandsBefore k m n =
    (rank k.classes (key_at k m) < rank k.classes (key_at k n))
    ⊎ ((rank k.classes (key_at k m) ≡ rank k.classes (key_at k n)) × (m < n))

-- where the marked classes are made, these are still to be made for a class: just what is needed for it and isn't made, in order, and each front of them has its needs among itself and what is made
pub record AreToMake (k : Numbering) (made : List Bool) (x : ℕ) (order : List ℕ) : Type 0 where
  pub which : (n : ℕ) → Mem n order ↔ (IsNumbered k n × IsNeeded k x n × (IsMarked made n → ⊥))
  pub ordered : (i j m n : ℕ) → i < j → slice_get order i ≡ Some m → slice_get order j ≡ Some n → StandsBefore k m n
  pub fronts : (i : ℕ) → HaveNeeds k (λ n. IsMarked made n ⊎ Mem n (take i order))
