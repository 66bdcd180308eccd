-- The flat interface of levels of libraries: the classes of all of them as those of one library.
use Rattle.std.specs.Prelude.{ℕ, List, length, map}
use Rattle.som_model.specs.declared.key.Module.TheVariants as modules
use Rattle.som_model.specs.declared.key.ClassKey.{ClassKey}
use Rattle.som_model.specs.declared.class.Entry.{Entry}
use Rattle.som_model.specs.declared.class.Entry.TheVariants as entries
use Rattle.som_model.specs.declared.class.ClassFace.{ClassFace}
use Rattle.som_model.specs.declared.program.Interface.{Interface}
use Rattle.som_model.specs.Class.{Class, bare}
use Rattle.som_model.specs.Owner.{owner}
use Rattle.som_rekey_laws.specs.Rekeying.{ModuleChange, rekey_face}
use Rattle.som_level_laws.specs.Levels.{all_levels, level_classes}

-- each level becomes the library; the kernel and the client stay
abbrev pub flat_module : ModuleChange
flat_module modules.Kernel name = modules.Kernel
flat_module modules.Library name = modules.Library
flat_module (modules.Upper k) name = modules.Library
flat_module modules.Client name = modules.Client

-- a moved entry of a class names the class of its owner among all these
abbrev pub entry_by_owner : List Class → ClassKey → Entry → Entry
entry_by_owner cs k (entries.Introduced name sig way) = entries.Introduced name sig way
entry_by_owner cs k (entries.Moved name to) = entries.Moved name (owner cs (record { class = k; name = name })).class

-- so does each moved entry of the class's face
abbrev pub face_by_owners : List Class → Class → ClassFace
face_by_owners cs c = record {
  name = c.decl.face.name;
  major = c.decl.face.major;
  minor = c.decl.face.minor;
  parents = c.decl.face.parents;
  metaclass = c.decl.face.metaclass;
  entries = map (entry_by_owner cs c.key) c.decl.face.entries;
}

-- a class of which this face is known
abbrev pub class_by_owners : List Class → Class → Class
class_by_owners cs c = record { key = c.key; decl = bare (face_by_owners cs c) }

-- the classes of levels, where each moved entry names the class of its owner
abbrev pub levels_by_owners : List Interface → List Class
levels_by_owners is = map (class_by_owners (all_levels is)) (level_classes is)

-- one interface with the classes of all levels in order, named as those of one library, where each moved entry names the class of its owner
abbrev pub flat_interface : List Interface → Interface
flat_interface is = record { classes = map (λ (c : Class). rekey_face flat_module c.decl.face) (levels_by_owners is) }

-- how many classes each level has
abbrev pub sizes_of : List Interface → List ℕ
sizes_of is = map (λ (i : Interface). length i.classes) is
