-- The numbers and slots of keys and names: classes, methods and types.
use Rattle.std.specs.Prelude.{◌≡◌, ℕ, ◌<◌, ◌≤◌, ◌^◌, List, [], ◌++◌, length, map, get_or, All, unwrap_or}
use Rattle.std.specs.Str.{bytes_eq}
use Rattle.som_model.specs.declared.limits.TheConstants.{MAX_ENTRIES}
use Rattle.som_model.specs.declared.key.Module.{Module}
use Rattle.som_model.specs.declared.key.ClassKey.{ClassKey, out-ClassKey}
use Rattle.som_model.specs.declared.key.ClassKey.TheOpen.{ClassKey-F}
use Rattle.som_model.specs.declared.key.ClassKey.TheVariants as keys
use Rattle.som_model.specs.declared.key.MethodRef.{MethodRef}
use Rattle.som_model.specs.declared.key.ValueType.{ValueType}
use Rattle.som_model.specs.declared.key.ValueType.TheVariants as values
use Rattle.som_model.specs.Lists.{Mem, place_from}
use Rattle.som_model.specs.Keys.{same_key}
use Rattle.som_image_fields.specs.declared.kind.WireType.{WireType}
use Rattle.som_image_fields.specs.declared.kind.WireType.TheVariants as types
use Rattle.som_image_fields.specs.declared.method.WireMethod.{WireMethod}
use Rattle.som_image_decode.specs.declared.directory.Directory.{Directory}
use Rattle.som_image_decode.specs.Naming.{Differ}

-- ---- names of classes

abbrev pub name_in_key : ClassKey-F ClassKey → List ℕ
name_in_key (ClassKey-F.Named m name) = name
name_in_key _ = []

-- the name of a declared class
abbrev pub key_name : ClassKey → List ℕ
key_name k = name_in_key (out-ClassKey k)

-- a class that isn't made of others
abbrev pub IsDeclared : ClassKey → Type 0
IsDeclared k = (m : Module) × (name : List ℕ) × (k ≡ keys.Named m name)

-- the names of a directory's classes
abbrev pub class_names : Directory → List (List ℕ)
class_names d = map key_name d.keys

-- names tell the classes of a directory apart, of which there are as many as numbers can say
pub record AreNamed (d : Directory) : Type 0 where
  pub declared : All IsDeclared d.keys
  pub differ : Differ (class_names d)
  pub few : length d.keys < 2 ^ 16

-- these are the names of a directory's classes, none of which has too many entries
pub record IsDirectory (names : List (List ℕ)) (d : Directory) : Type 0 where
  pub named : AreNamed d
  pub are : names ≡ class_names d
  pub slots : length d.slots ≡ length d.keys
  pub few : All (λ ns. length ns ≤ MAX_ENTRIES) d.slots

-- ---- numbers and slots

-- the number of a class is its place
abbrev pub number_of : List ClassKey → ClassKey → ℕ
number_of ks k = unwrap_or (place_from 0 (λ x. same_key x k) ks) 0

-- the slot of a name is its place
abbrev pub slot_of : List (List ℕ) → List ℕ → ℕ
slot_of names name = unwrap_or (place_from 0 (λ x. bytes_eq x name) names) 0

-- the class of a method, and its slot there
abbrev pub method_numbered : Directory → MethodRef → WireMethod
method_numbered d r = let n = number_of d.keys r.class in record { class = n; slot = slot_of (get_or d.slots n []) r.name }

-- a method of a class that is there, with a name among its entries
pub record MethodKnown (d : Directory) (r : MethodRef) : Type 0 where
  pub class : Mem r.class d.keys
  pub name : Mem r.name (get_or d.slots (number_of d.keys r.class) [])

-- ---- types

abbrev pub kind_numbered : List ClassKey → ValueType → WireType
kind_numbered ks values.Void = types.Void
kind_numbered ks values.Long = types.Long
kind_numbered ks values.Boolean = types.Boolean
kind_numbered ks values.Str = types.Str
kind_numbered ks (values.Class k) = types.Class (number_of ks k)

-- a type whose class is there
abbrev pub IsKnown : List ClassKey → ValueType → Type 0
IsKnown ks values.Void = Unit {0}
IsKnown ks values.Long = Unit {0}
IsKnown ks values.Boolean = Unit {0}
IsKnown ks values.Str = Unit {0}
IsKnown ks (values.Class k) = Mem k ks

-- the type of a value, so not void
abbrev pub IsValue : List ClassKey → ValueType → Type 0
IsValue ks values.Void = ⊥
IsValue ks t = IsKnown ks t
