-- Classes by their places: the kernel's first, and then the declared ones.
use Rattle.std.specs.Prelude.{◌≡◌, ℕ, ◌<◌, List, [], ◌++◌, map, length, slice_index_or, Option, Some, None}
use Rattle.som_model.specs.declared.key.Module.{Module}
use Rattle.som_model.specs.declared.key.Module.TheVariants as modules
use Rattle.som_model.specs.declared.key.ClassKey.{ClassKey}
use Rattle.som_model.specs.declared.class.ClassDecl.{ClassDecl}
use Rattle.som_model.specs.declared.class.ClassFace.{ClassFace}
use Rattle.som_model.specs.Lists.{Mem}
use Rattle.som_model.specs.Class.{Class, class_in, bare}
use Rattle.som_model.specs.Kernel.{kernel, kernel_face}
use Rattle.som_model.specs.Rules.{name_of}
use Rattle.som_order.specs.Names.{name_at}
use Rattle.som_verify_classes.specs.Told.{of_release}
use Rattle.som_verify_classes.specs.Modules.{AreDeclared, module_of}

-- the kernel's classes, and then these
abbrev pub with_kernel : List Class → List Class
with_kernel cs = kernel ++ cs

-- the kernel's classes and a release's
abbrev pub all_classes : List ClassDecl → List Class
all_classes ds = with_kernel (of_release ds)

-- a class for the places at which there is none
abbrev pub nobody : Class
nobody = class_in modules.Kernel (bare (kernel_face [] [] []))

abbrev pub class_of_place : List Class → ℕ → Class
class_of_place cs place = slice_index_or cs place nobody

abbrev pub key_at : List Class → ℕ → ClassKey
key_at cs place = (class_of_place cs place).key

abbrev pub face_at : List Class → ℕ → ClassFace
face_at cs place = (class_of_place cs place).decl.face

-- the module of the class at a place
abbrev pub module_at : List Class → ℕ → Module
module_at cs place = module_of (class_of_place cs place)

-- no name stands twice
pub record AreOnce (names : List (List ℕ)) : Type 0 where
  pub by : (i j : ℕ) → i < length names → j < length names → name_at names i ≡ name_at names j → i ≡ j

-- the names of the kernel's classes and of these by their places
pub record IsTable (cs : List Class) (names : List (List ℕ)) : Type 0 where
  pub are : names ≡ map name_of (with_kernel cs)
  pub once : AreOnce names
  pub declared : AreDeclared cs

-- the place below the limit at which a class of that key stands
abbrev pub Finds : ℕ → List Class → ClassKey → Option ℕ → Type 0
Finds limit cs k (Some place) = (place < limit) × (place < length cs) × (key_at cs place ≡ k)
Finds limit cs k None = (place : ℕ) → place < limit → place < length cs → key_at cs place ≡ k → ⊥

-- the rows of the first n classes: the parents of each by their places, and each parent stands before the class
pub record IsRows (cs : List Class) (n : ℕ) (rows : List (List ℕ)) : Type 0 where
  pub long : length rows ≡ n
  pub low : (i p : ℕ) → Mem p (slice_index_or rows i []) → p < i
  pub by : (i : ℕ) → i < n → map (key_at cs) (slice_index_or rows i []) ≡ (face_at cs i).parents
