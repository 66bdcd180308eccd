-- The ancestors of classes by their places.
use Rattle.std.specs.Prelude.{◌≡◌, ℕ, ◌<◌, List, [], map, length, slice_index_or, Some}
use Rattle.som_model.specs.Lists.{Mem}
use Rattle.som_model.specs.Ancestors.{anc}
use Rattle.som_model.specs.Class.{Class}
use Rattle.som_model.specs.Classes.{class_at, hierarchy}
use Rattle.som_verify_classes.specs.Places.{class_of_place, key_at}

-- the ancestors of each class, by their places, where no key stands twice and each class is found by its key
pub record AreLists (cs : List Class) (all : List (List ℕ)) : Type 0 where
  pub long : length all ≡ length cs
  pub low : (i a : ℕ) → Mem a (slice_index_or all i []) → a < length cs
  pub once : (i j : ℕ) → i < length cs → j < length cs → key_at cs i ≡ key_at cs j → i ≡ j
  pub found : (i : ℕ) → i < length cs → class_at cs (key_at cs i) ≡ Some (class_of_place cs i)
  pub by : (i : ℕ) → i < length cs → map (key_at cs) (slice_index_or all i []) ≡ anc (hierarchy cs) (key_at cs i)
