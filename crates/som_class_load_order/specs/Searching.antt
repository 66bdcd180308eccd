-- What a search for the classes to be made has come to.
use Rattle.std.specs.Prelude.{◌≡◌, ◌⊎◌, ℕ, ◌<◌, Bool, List, ◌++◌, take}
use Rattle.std.specs.declared.cmp.Ordering.{Ordering}
use Rattle.std.specs.Ordering.{nat_cmp, ordering_then}
use Rattle.som_model.specs.Lists.{Mem}
use Rattle.som_model.specs.Classes.{parents_of}
use Rattle.som_model.specs.Metaclass.{rank}
use Rattle.som_meta.specs.Numbering.{IsNumbered, Numbering, key_at}
use Rattle.som_class_table.specs.Making.{IsMarked, IsNeeded, IsNeedOf}

-- by rank, and of one rank by number
abbrev pub in_turn : ℕ × ℕ → ℕ × ℕ → Ordering
in_turn x y = ordering_then (nat_cmp x.0 y.0) (nat_cmp x.1 y.1)

-- both hold the classes of one search, by number, and by rank and number
pub record AreSame (k : Numbering) (classes : List ℕ) (ranked : List (ℕ × ℕ)) : Type 0 where
  pub there : (n : ℕ) → Mem n classes → Mem (rank k.classes (key_at k n), n) ranked
  pub only : (r n : ℕ) → Mem (r, n) ranked → Mem n classes × (r ≡ rank k.classes (key_at k n))

-- to the old ones those of these were added at the end that aren't made and weren't there
pub record AreNoted (made : List Bool) (These : ℕ → Type 0) (old new : List ℕ) : Type 0 where
  pub added : List ℕ
  pub is : new ≡ old ++ added
  pub only : (n : ℕ) → Mem n new → Mem n old ⊎ (These n × (IsMarked made n → ⊥))
  pub there : (n : ℕ) → These n → IsMarked made n ⊎ Mem n new

-- each class is needed for x and isn't made, and of the first so many all needs are made or among the classes; their parents have lower numbers
pub record AreSearched (k : Numbering) (made : List Bool) (x : ℕ) (classes : List ℕ) (done : ℕ) : Type 0 where
  pub start : IsMarked made x ⊎ Mem x classes
  pub needed : (n : ℕ) → Mem n classes → IsNumbered k n × IsNeeded k x n × (IsMarked made n → ⊥)
  pub needs : (n m : ℕ) → Mem n (take done classes) → IsNeedOf k n m → IsMarked made m ⊎ Mem m classes
  pub low : (n p : ℕ) → Mem n (take done classes) → IsNumbered k p → Mem (key_at k p) (parents_of k.classes (key_at k n)) → p < n
