-- Classes in their modules, by their places: the kernel's first, and then those of each level.
use Rattle.std.specs.Prelude.{◌≡◌, ◌≤◌, List, ◌++◌, map, length}
use Rattle.som_model.specs.declared.limits.TheConstants.{MAX_ENTRIES}
use Rattle.som_model.specs.Lists.{Mem}
use Rattle.som_model.specs.Class.{Class, bare, class_in}
use Rattle.som_model.specs.Kernel.{kernel}
use Rattle.som_model.specs.Loads.{FacesLoad}
use Rattle.som_release_laws.specs.Releasing.{HaveParents}
use Rattle.som_compat_levels.specs.declared.classes.PlacedClass.{PlacedClass}

-- the class of a face in its module
abbrev pub class_of : PlacedClass → Class
class_of p = class_in p.module (bare p.face.now)

abbrev pub classes_of : List PlacedClass → List Class
classes_of ps = map class_of ps

-- the kernel's classes, and others that can stand above them, each with a parent
pub record AreStanding (cs : List Class) : Type 0 where
  pub own : List Class
  pub are : cs ≡ kernel ++ own
  pub load : FacesLoad own
  pub parents : HaveParents own
  pub few : length cs ≤ 32772
  pub counted : (c : Class) → Mem c cs → length c.decl.face.entries ≤ MAX_ENTRIES
