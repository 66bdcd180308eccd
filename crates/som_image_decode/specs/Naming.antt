-- What numbers and slots stand for: classes, methods and types.
use Rattle.std.specs.Prelude.{◌≡◌, ℕ, List, [], ◌∷◌, ◌++◌, length, map, get_or}
use Rattle.std.specs.List.{AllByRecursion, IsDistinct}
use Rattle.std.specs.Str.{bytes_eq}
use Rattle.som_model.specs.declared.key.Module.{Module}
use Rattle.som_model.specs.declared.key.Module.TheVariants as modules
use Rattle.som_model.specs.declared.key.ClassKey.{ClassKey}
use Rattle.som_model.specs.declared.key.ClassKey.TheVariants as keys
use Rattle.som_model.specs.declared.key.MethodRef.{MethodRef}
use Rattle.som_model.specs.declared.key.ValueType.{ValueType}
use Rattle.som_model.specs.declared.key.ValueType.TheVariants as values
use Rattle.som_model.specs.declared.class.ClassFace.{ClassFace}
use Rattle.som_model.specs.declared.program.Release.{Release}
use Rattle.som_model.specs.Lists.{doubles}
use Rattle.som_model.specs.Keys.{same_key}
use Rattle.som_model.specs.Class.{Class, entry_name}
use Rattle.som_model.specs.Kernel.{kernel, som_object}
use Rattle.som_image_fields.specs.declared.kind.WireType.{WireType}
use Rattle.som_image_fields.specs.declared.kind.WireType.TheVariants as types
use Rattle.som_image_fields.specs.declared.entry.WireEntry.{WireEntry}
use Rattle.som_image_fields.specs.declared.entry.WireEntry.TheVariants as entries
use Rattle.som_image_fields.specs.declared.face.WireFace.{WireFace}
use Rattle.som_image_fields.specs.declared.method.WireMethod.{WireMethod}
use Rattle.som_image_fields.specs.declared.method.Ranges.{Ranges}
use Rattle.som_image_decode.specs.declared.directory.Directory.{Directory}

-- ---- directories

abbrev pub name_in : WireEntry → List ℕ
name_in (entries.Introduced name sig way) = name
name_in (entries.Moved name to) = name

-- the names of a face's entries, in order
abbrev pub names_in : WireFace → List (List ℕ)
names_in f = map name_in f.entries

-- the kernel's classes
abbrev pub kernel_directory : Directory
kernel_directory = record { keys = map (λ c. c.key) kernel; slots = map (λ c. map entry_name c.decl.face.entries) kernel }

-- these classes, and then those of a module with these faces
abbrev pub with_classes : Directory → Module → List WireFace → Directory
with_classes d m fs = record { keys = d.keys ++ map (λ f. keys.Named m f.name) fs; slots = d.slots ++ map names_in fs }

-- these classes, and then one of a module
abbrev pub with_face : Directory → Module → ClassFace → Directory
with_face d m f = record { keys = d.keys ++ keys.Named m f.name ∷ []; slots = d.slots ++ map entry_name f.entries ∷ [] }

-- the kernel's classes and a library's
abbrev pub library_directory : List WireFace → Directory
library_directory fs = with_classes kernel_directory modules.Library fs

-- the kernel's classes and a release's, and the names of their entries
abbrev pub release_directory : Release → Directory
release_directory r = record {
  keys = kernel_directory.keys ++ map (λ c. keys.Named modules.Library c.face.name) r.classes;
  slots = kernel_directory.slots ++ map (λ c. map entry_name c.face.entries) r.classes;
}

-- how many classes there are, and how many entries each has
abbrev pub ranges_in : Directory → Ranges
ranges_in d = record { classes = length d.keys; entries = map (λ names. length names) d.slots }

-- ---- the classes that a directory stands for

-- the names of a class's entries, in order
abbrev pub entry_names : Class → List (List ℕ)
entry_names c = map entry_name c.decl.face.entries

-- a directory tells the keys of these classes, and the names of their entries
pub record Tells (d : Directory) (cs : List Class) : Type 0 where
  pub keys : map (λ c. c.key) cs ≡ d.keys
  pub slots : map entry_names cs ≡ d.slots

-- no name stands twice
abbrev pub Differ : List (List ℕ) → Type 0
Differ names = doubles bytes_eq [] names ≡ []

-- no class stands twice, and in no class a name
pub record NoDoubles (d : Directory) : Type 0 where
  pub keys : IsDistinct same_key d.keys
  pub slots : AllByRecursion (IsDistinct bytes_eq) d.slots

-- ---- numbers

-- the class of a number, which is its place
abbrev pub key_at : List ClassKey → ℕ → ClassKey
key_at ks n = get_or ks n som_object

-- the class of a number, and the name in that class's slot
abbrev pub method_named : Directory → WireMethod → MethodRef
method_named d m = record { class = key_at d.keys m.class; name = get_or (get_or d.slots m.class []) m.slot [] }

-- ---- types

abbrev pub kind_named : List ClassKey → WireType → ValueType
kind_named ks types.Void = values.Void
kind_named ks types.Long = values.Long
kind_named ks types.Boolean = values.Boolean
kind_named ks types.Str = values.Str
kind_named ks (types.Class n) = values.Class (key_at ks n)
