-- What is noted of classes, by their places.
use Rattle.std.specs.Prelude.{◌≡◌, ◌<◌, ℕ, List, length, slice_index_or, Option, Some, None}
use Rattle.som_model.specs.declared.key.ClassKey.{ClassKey}
use Rattle.som_model.specs.Class.{Class}
use Rattle.som_verify_classes.specs.Places.{face_at, key_at, IsRows}
use Rattle.som_verify_classes.specs.Walk.{AreLists}
use Rattle.som_compat_levels.specs.declared.tables.Levels.{Levels}
use Rattle.som_compat_levels.specs.declared.tables.Tables.{Tables}
use Rattle.som_compat_levels.specs.Owners.{AreOwners}
use Rattle.som_compat_levels.specs.Standing.{AreStanding, classes_of}

-- the place of a class that has the key, if there is a key
abbrev pub IsPlaceOf : List Class → Option ClassKey → Option ℕ → Type 0
IsPlaceOf cs None None = Unit {0}
IsPlaceOf cs (Some k) (Some p) = (p < length cs) × (key_at cs p ≡ k)
IsPlaceOf cs None (Some p) = ⊥
IsPlaceOf cs (Some k) None = ⊥

-- the places of the metaclasses that the classes declare
pub record AreMetaclasses (cs : List Class) (ms : List (Option ℕ)) : Type 0 where
  pub long : length ms ≡ length cs
  pub by : (p : ℕ) → p < length cs → IsPlaceOf cs (face_at cs p).metaclass (slice_index_or ms p None)

-- the parents, the ancestors and the metaclasses of classes, and the owners of their entries
pub record AreTables (cs : List Class) (t : Tables) : Type 0 where
  pub rows : IsRows cs (length cs) t.parents.items
  pub lists : AreLists cs t.ancestors.items
  pub metaclasses : AreMetaclasses cs t.metaclasses.items
  pub owners : AreOwners cs (length cs) t.owners.items

-- the classes of all levels
abbrev pub classes_in : Levels → List Class
classes_in l = classes_of l.classes.now

-- classes that can stand, with what is noted of them
pub record AreLevels (l : Levels) : Type 0 where
  pub stand : AreStanding (classes_in l)
  pub tables : AreTables (classes_in l) l.tables.now
