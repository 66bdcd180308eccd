-- Who owns a method.
use Rattle.std.specs.Prelude.{◌≡◌, true, List}
use Rattle.som_model.specs.declared.key.MethodRef.{MethodRef}
use Rattle.som_model.specs.Ancestors.{Descends}
use Rattle.som_model.specs.Class.{Class}
use Rattle.som_model.specs.Classes.{hierarchy}
use Rattle.som_model.specs.Owner.{introduces}

-- s has the name of r, its class introduces that name, and the class of r descends from the class of s
pub record Owns (cs : List Class) (s r : MethodRef) : Type 0 where
  pub name : s.name ≡ r.name
  pub introduced : introduces cs s.name s.class ≡ true
  pub above : Descends (hierarchy cs) r.class s.class
