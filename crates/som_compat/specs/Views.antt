-- An interface by the places of its classes, the kernel's first.
use Rattle.std.specs.Prelude.{◌≡◌, ◌<◌, ℕ, List, map, length, take, slice_index_or, Option, Some, None}
use Rattle.som_model.specs.declared.key.ClassKey.{ClassKey}
use Rattle.som_model.specs.declared.class.ClassFace.{ClassFace}
use Rattle.som_model.specs.declared.program.Interface.{Interface}
use Rattle.som_model.specs.Lists.{Mem}
use Rattle.som_model.specs.declared.key.Module.TheVariants as modules
use Rattle.som_model.specs.Class.{Class, class_in, bare}
use Rattle.som_model.specs.Compatible.{release_of}
use Rattle.som_verify_classes.specs.Places.{class_of_place, key_at, face_at}
use Rattle.som_compat.specs.declared.rows.Row.{Row}
use Rattle.som_compat.specs.declared.view.View.{View}
use Rattle.som_compat.specs.Conditions.{Conforms}

-- the class of a face
abbrev pub shown : ClassFace → Class
shown f = class_in modules.Library (bare f)

abbrev pub interface : List ClassFace → Interface
interface faces = record { classes = faces }

-- the kernel's classes and these
unfoldable pub classes_of : List ClassFace → List Class
classes_of faces = release_of (interface faces)

-- the places of a class's parents
abbrev pub numbers_of : Row → List ℕ
numbers_of r = take r.count r.numbers

abbrev pub key_of : List Class → Option ℕ → Option ClassKey
key_of cs None = None
key_of cs (Some place) = Some (key_at cs place)

-- a place of a class, if there is one
abbrev pub IsWithin : List Class → Option ℕ → Type 0
IsWithin cs None = Unit {0}
IsWithin cs (Some place) = place < length cs

-- the parents and the metaclass of a class, by their places
pub record IsRow (cs : List Class) (f : ClassFace) (r : Row) : Type 0 where
  pub parents : map (key_at cs) (numbers_of r) ≡ f.parents
  pub low : (q : ℕ) → Mem q (numbers_of r) → q < length cs
  pub metaclass : key_of cs r.metaclass ≡ f.metaclass
  pub within : IsWithin cs r.metaclass

-- the rows of all classes
pub record AreRows (cs : List Class) (rows : List Row) : Type 0 where
  pub long : length rows ≡ length cs
  pub by : (p : ℕ) (d : Row) → p < length cs → IsRow cs (face_at cs p) (slice_index_or rows p d)

-- a class of the old and the class of the same name in the new
pub record IsShown (olds news : List ClassFace) (f g : ClassFace) : Type 0 where
  pub place : ℕ
  pub within : place < length (classes_of olds)
  pub old_one : class_of_place (classes_of olds) place ≡ shown f
  pub other : ℕ
  pub other_within : other < length (classes_of news)
  pub new_one : class_of_place (classes_of news) other ≡ shown g
  pub same : (shown g).key ≡ (shown f).key

-- a view of an interface that conforms: its classes by their places
pub record IsView (v : View) : Type 0 where
  pub conforms : Conforms (interface v.lookup.faces.now)
  pub rows : AreRows (classes_of v.lookup.faces.now) v.rows.now
