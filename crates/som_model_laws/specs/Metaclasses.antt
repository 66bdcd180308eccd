-- From which classes a metaclass descends.
use Rattle.std.specs.Prelude.{◌≡◌, ℕ, true, List, Some}
use Rattle.som_model.specs.declared.key.Module.{Module}
use Rattle.som_model.specs.declared.key.ClassKey.{ClassKey}
use Rattle.som_model.specs.declared.key.ClassKey.TheVariants as keys
use Rattle.som_model.specs.Lists.{Mem}
use Rattle.som_model.specs.Ancestors.{Descends}
use Rattle.som_model.specs.Class.{Class}
use Rattle.som_model.specs.Classes.{hierarchy}
use Rattle.som_model.specs.Metaclass.{is_low}

-- a class that has a name, and isn't made of others
pub record IsDeclared (k : ClassKey) : Type 0 where
  pub module_ : Module
  pub name : List ℕ
  pub is : k ≡ keys.Named module_ name

-- x descends from a class of the kernel, or from one that is no higher
pub record StandsLow (cs : List Class) (x : ClassKey) : Type 0 where
  pub class : ClassKey
  pub low : is_low cs class ≡ true
  pub above : Descends (hierarchy cs) x class

-- the declared metaclass of some class from which x descends, descends from n
pub record Declares (cs : List Class) (x n : ClassKey) : Type 0 where
  pub class : Class
  pub there : Mem class cs
  pub above : Descends (hierarchy cs) x class.key
  pub metaclass : ClassKey
  pub declared : class.decl.face.metaclass ≡ Some metaclass
  pub below : Descends (hierarchy cs) metaclass n
