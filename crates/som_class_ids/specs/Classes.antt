-- The declared classes of a run.
use Rattle.std.specs.Prelude.{◌≡◌, List, ◌++◌, map}
use Rattle.som_model.specs.Class.{Class}
use Rattle.som_model.specs.Kernel.{kernel}
use Rattle.som_model.specs.Loads.{IsOrdered}
use Rattle.som_class_ids.specs.declared.keyed.Keyed.{Keyed}

abbrev pub class_of : Keyed → Class
class_of k = record { key = k.key; decl = k.decl }

-- the classes as the definitions have them
abbrev pub classes_of : List Keyed → List Class
classes_of ks = map class_of ks

-- the kernel's classes, and after them others, each after its parents
pub record AreDeclared (all : List Class) : Type 0 where
  pub others : List Class
  pub is : all ≡ kernel ++ others
  pub ordered : IsOrdered others
