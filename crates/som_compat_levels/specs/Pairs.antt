-- The old classes and those of the same keys in the new.
use Rattle.std.specs.Prelude.{◌≡◌, ◌==◌, ◌<◌, ℕ, List, length, slice_get, slice_index_or, Some}
use Rattle.som_model.specs.declared.key.ClassKey.{ClassKey}
use Rattle.som_model.specs.Class.{Class}
use Rattle.som_model.specs.Classes.{is_a}
use Rattle.som_model.specs.Compatible.{order_of}
use Rattle.som_verify_classes.specs.Places.{class_of_place, key_at}

-- a place of the new at which a class of the old's key stands
pub record IsPair (olds news : List Class) (p r : ℕ) : Type 0 where
  pub within : r < length news
  pub same : key_at news r ≡ key_at olds p

-- the places in the new of the first n classes of the old
pub record ArePaired (olds news : List Class) (n : ℕ) (pairs : List ℕ) : Type 0 where
  pub long : length pairs ≡ length olds
  pub by : (p : ℕ) → p < n → IsPair olds news p (slice_index_or pairs p 0)

-- the release order of a class begins that of another
abbrev pub BeginsOrder : Class → Class → Type 0
BeginsOrder c n = (i : ℕ) (name : List ℕ) → slice_get (order_of c) i ≡ Some name → slice_get (order_of n) i ≡ Some name

-- each of the first n classes of the old begins the release order of its pair
abbrev pub AreBegun : List Class → List Class → ℕ → List ℕ → Type 0
AreBegun olds news n pairs = (p : ℕ) → p < n → BeginsOrder (class_of_place olds p) (class_of_place news (slice_index_or pairs p 0))

-- the classes from which a class descends have the mark, and no others
pub record AreAbove (cs : List Class) (k : ClassKey) (marks : List ℕ) (mark : ℕ) : Type 0 where
  pub long : length marks ≡ length cs
  pub by : (q : ℕ) → q < length cs → (slice_index_or marks q 0 == mark) ≡ is_a cs k (key_at cs q)
