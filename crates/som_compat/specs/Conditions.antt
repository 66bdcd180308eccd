-- Which interfaces are compared.
use Rattle.std.specs.Prelude.{◌≡◌, ◌≤◌, length, All, None}
use Rattle.som_model.specs.declared.limits.TheConstants.{MAX_ENTRIES, MAX_LIBRARY_CLASSES, MAX_PARENTS}
use Rattle.som_model.specs.declared.class.ClassFace.{ClassFace}
use Rattle.som_model.specs.declared.program.Interface.{Interface}
use Rattle.som_model.specs.Classes.{interface_classes}
use Rattle.som_verify_classes.specs.Faces.{faces_breach}

-- one parent at least, and no more parents and entries than a class may have
pub record IsCounted (f : ClassFace) : Type 0 where
  pub some : 1 ≤ length f.parents
  pub parents : length f.parents ≤ MAX_PARENTS
  pub entries : length f.entries ≤ MAX_ENTRIES

-- an interface that breaks no rule, and is within the counts
pub record Conforms (i : Interface) : Type 0 where
  pub rules : faces_breach (interface_classes i) ≡ None
  pub classes : length i.classes ≤ MAX_LIBRARY_CLASSES
  pub counts : All IsCounted i.classes
