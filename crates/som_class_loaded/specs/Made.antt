-- What there is of the classes that are made.
use Rattle.std.specs.Prelude.{◌≡◌, ◌↔◌, ◌⊎◌, ℕ, ◌<◌, Bool, List, [], length, map, take, Option, None, Some, slice_get, slice_index_or}
use Rattle.som_model.specs.Lists.{Mem}
use Rattle.som_model.specs.Classes.{parents_of}
use Rattle.som_model.specs.Metaclass.{hooks}
use Rattle.som_tables.specs.Layout.{Extends}
use Rattle.som_tables.specs.Rows.{Added, HasRow, row_at}
use Rattle.som_meta.specs.Numbering.{AreNumbered, IsNumbered, Numbering, key_at}
use Rattle.som_names.specs.declared.named.Named.{Named}
use Rattle.som_names.specs.Index.{ancestors_at, named_at}
use Rattle.som_class_loaded.specs.Added.{HasClass}
use Rattle.som_class_bodies.specs.Bodies.{AreBodies, MethodRows}
use Rattle.som_class_variables.specs.Placed.{ArePlaces, DataRows}
use Rattle.som_class_table.specs.Making.{IsMarked, IsNeeded}

-- rows of methods and of variables, an index of names, and by number which classes are made, and the hooks that each has as a metaclass
pub record Parts : Type 0 where
  pub bodies : MethodRows
  pub places : DataRows
  pub names : List (ℕ × Named)
  pub made : List Bool
  pub hooks : List (List ℕ)

-- the hooks of a class as a metaclass; none where it isn't made
abbrev pub hooks_at : List (List ℕ) → ℕ → List ℕ
hooks_at all n = slice_index_or all n []

-- these are the hooks of a class as a metaclass
pub record AreHooks (k : Numbering) (n : ℕ) (ns : List ℕ) : Type 0 where
  pub numbered : AreNumbered k ns
  pub keys : map (key_at k) ns ≡ hooks k.classes (key_at k n)

-- a class has both rows, its names, with its ancestors by number, and its hooks
pub record IsWhole (k : Numbering) (v : Parts) (n : ℕ) : Type 0 where
  pub methods : HasRow v.bodies.rows n
  pub variables : HasRow v.places.rows n
  pub names : HasClass k v.names n
  pub above : AreNumbered k (ancestors_at v.names n)
  pub hooks_are : AreHooks k n (hooks_at v.hooks n)

-- the rows are those of these classes, each class that is made has all that it needs, and one that isn't made has no names
pub record AreParts (k : Numbering) (v : Parts) : Type 0 where
  pub bodies : AreBodies k v.bodies
  pub places : ArePlaces k v.places
  pub marks : length v.made ≡ length k.keys
  pub long : length v.hooks ≡ length k.keys
  pub whole : (n : ℕ) → IsMarked v.made n → IsWhole k v n
  pub unnamed : (n : ℕ) → (IsMarked v.made n → ⊥) → named_at v.names n ≡ None

-- each row that there was is as it was
abbrev pub KeepsFilled : List (Option (Added ℕ)) → List (Option (Added ℕ)) → Type 0
KeepsFilled old new = (n : ℕ) → HasRow old n → row_at new n ≡ row_at old n

-- the bodies so far have their numbers, and the classes made before are made and have the rows, names and hooks that they had
pub record KeepsMade (old new : Parts) : Type 0 where
  pub bodies : Extends old.bodies.bodies new.bodies.bodies
  pub made : (n : ℕ) → IsMarked old.made n → IsMarked new.made n
  pub methods : (n : ℕ) → IsMarked old.made n → row_at new.bodies.rows n ≡ row_at old.bodies.rows n
  pub variables : (n : ℕ) → IsMarked old.made n → row_at new.places.rows n ≡ row_at old.places.rows n
  pub names : (n : ℕ) → IsMarked old.made n → named_at new.names n ≡ named_at old.names n
  pub hooks : (n : ℕ) → IsMarked old.made n → hooks_at new.hooks n ≡ hooks_at old.hooks n

-- made are the classes made before, and these
abbrev pub AreMarked : List Bool → List Bool → List ℕ → Type 0
AreMarked old new ns = (n : ℕ) → IsMarked new n ↔ (IsMarked old n ⊎ Mem n ns)

-- the classes made before, and what is needed for one more: itself, and with each class its parents and its metaclass
abbrev pub IsReached : Numbering → List Bool → ℕ → ℕ → Type 0
IsReached k made class n = IsMarked made n ⊎ (IsNumbered k n × IsNeeded k class n)

-- each parent of a class that has a lower number is made
abbrev pub HaveMadeBelow : Numbering → List Bool → ℕ → Type 0
HaveMadeBelow k made n = (p : ℕ) → p < n → Mem (key_at k p) (parents_of k.classes (key_at k n)) → IsMarked made p

-- these classes can be made in this order: none of them is made or stands twice, and the parents of each are made or stand before it
pub record CanBeMade (k : Numbering) (made : List Bool) (order : List ℕ) : Type 0 where
  pub numbered : (i n : ℕ) → slice_get order i ≡ Some n → IsNumbered k n
  pub unmade : (i n : ℕ) → slice_get order i ≡ Some n → IsMarked made n → ⊥
  pub once : (i n : ℕ) → slice_get order i ≡ Some n → Mem n (take i order) → ⊥
  pub parents : (i n p : ℕ) → slice_get order i ≡ Some n → p < n → Mem (key_at k p) (parents_of k.classes (key_at k n)) → IsMarked made p ⊎ Mem p (take i order)
