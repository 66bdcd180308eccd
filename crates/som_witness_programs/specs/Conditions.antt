-- Which interfaces a client may be made of.
use Rattle.std.specs.Prelude.{◌≡◌, ◌≤◌, ℕ, List, length, Some, None}
use Rattle.som_model.specs.declared.limits.TheConstants.{MAX_LIBRARY_CLASSES, MAX_PARAMETERS}
use Rattle.som_model.specs.declared.key.ClassKey.{ClassKey}
use Rattle.som_model.specs.declared.class.Sig.{Sig}
use Rattle.som_model.specs.declared.class.ClassFace.{ClassFace}
use Rattle.som_model.specs.declared.program.Interface.{Interface}
use Rattle.som_model.specs.Classes.{interface_classes}
use Rattle.som_model.specs.Class.{Class}
use Rattle.som_model.specs.Compatible.{signature}
use Rattle.som_model.specs.Counts.{FaceCounted}
use Rattle.som_model.specs.Conforming.{faces_breach}
use Rattle.som_model.specs.Lists.{Mem}

-- an interface that breaks no rule of faces, and is within the counts
pub record MayBeCompared (i : Interface) : Type 0 where
  pub rules : faces_breach (interface_classes i) ≡ None
  pub classes : length i.classes ≤ MAX_LIBRARY_CLASSES
  pub counts : (f : ClassFace) → Mem f i.classes → FaceCounted f

-- no signature among these classes has more parameters than a method may have
pub record AreFew (cs : List Class) : Type 0 where
  pub by : (k : ClassKey) (name : List ℕ) (s : Sig) → signature cs k name ≡ Some s → length s.params ≤ MAX_PARAMETERS
