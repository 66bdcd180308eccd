-- Declared classes with their modules.
use Rattle.std.specs.Prelude.{◌≡◌, List, map}
use Rattle.som_model.specs.declared.key.Module.{Module}
use Rattle.som_model.specs.declared.key.Module.TheVariants as modules
use Rattle.som_model.specs.declared.key.ClassKey.{ClassKey, out-ClassKey}
use Rattle.som_model.specs.declared.key.ClassKey.TheOpen.{ClassKey-F}
use Rattle.som_model.specs.declared.key.ClassKey.TheVariants as keys
use Rattle.som_model.specs.Lists.{Mem}
use Rattle.som_model.specs.Class.{Class, class_in}
use Rattle.som_model.specs.Rules.{name_of}
use Rattle.som_verify_classes.specs.declared.types.Declared.{Declared}

-- the class that is declared
abbrev pub class_of : Declared → Class
class_of d = class_in d.module d.decl.now

abbrev pub classes_of : List Declared → List Class
classes_of ds = map class_of ds

-- the module that a key names; made classes are the kernel's
abbrev pub module_in : ClassKey-F ClassKey → Module
module_in (ClassKey-F.Named m name) = m
module_in (ClassKey-F.Derived ks) = modules.Kernel
module_in (ClassKey-F.Proxy k) = modules.Kernel

abbrev pub module_of : Class → Module
module_of c = module_in (out-ClassKey c.key)

-- the key of each class is its module and its name
pub record AreDeclared (cs : List Class) : Type 0 where
  pub by : (c : Class) → Mem c cs → c.key ≡ keys.Named (module_of c) (name_of c)
