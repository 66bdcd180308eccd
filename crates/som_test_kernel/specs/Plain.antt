-- Classes that have nothing of their own, under SOMObject.
use Rattle.std.specs.Prelude.{◌≡◌, ◌≤◌, ℕ, Bool, true, false, List, [], ◌∷◌, length, None}
use Rattle.som_model.specs.declared.key.Module.{Module}
use Rattle.som_model.specs.declared.key.Module.TheVariants as modules
use Rattle.som_model.specs.declared.class.ClassFace.{ClassFace}
use Rattle.som_model.specs.declared.limits.TheConstants.{MAX_TEXT}
use Rattle.som_model.specs.Lists.{Mem, doubles}
use Rattle.som_model.specs.Keys.{same_key}
use Rattle.som_model.specs.Class.{Class, bare, class_in}
use Rattle.som_model.specs.Kernel.{som_object}
use Rattle.som_model.specs.Loads.{keys_of}

-- whether a module is another than the kernel
abbrev pub is_outside : Module → Bool
is_outside modules.Kernel = false
is_outside _ = true

-- a face without entries, whose one parent is SOMObject
abbrev pub face_of : List ℕ → ℕ → ℕ → ClassFace
face_of name major minor = record { name = name; major = major; minor = minor; parents = som_object ∷ []; metaclass = None; entries = [] }

-- the class of a module that has this name and version and nothing of its own
abbrev pub plain : Module → List ℕ → ℕ → ℕ → Class
plain home name major minor = class_in home (bare (face_of name major minor))

-- a class outside the kernel that has nothing of its own
pub record IsPlain (c : Class) : Type 0 where
  pub home : Module
  pub name : List ℕ
  pub major : ℕ
  pub minor : ℕ
  pub outside : is_outside home ≡ true
  pub short : length name ≤ MAX_TEXT
  pub is : c ≡ plain home name major minor

-- such classes, no two of one module and one name
pub record ArePlain (cs : List Class) : Type 0 where
  pub all : (c : Class) → Mem c cs → IsPlain c
  pub differ : doubles same_key [] (keys_of cs) ≡ []
