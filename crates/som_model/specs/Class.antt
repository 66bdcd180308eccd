-- A class and its key, and what its face says.
use Rattle.std.specs.Prelude.{ℕ, List, [], ◌∷◌, map, Option, Some, None}
use Rattle.std.specs.Str.{bytes_eq}
use Rattle.som_model.specs.declared.key.Module.{Module}
use Rattle.som_model.specs.declared.key.ClassKey.{ClassKey}
use Rattle.som_model.specs.declared.key.ClassKey.TheVariants as keys
use Rattle.som_model.specs.declared.class.Sig.{Sig}
use Rattle.som_model.specs.declared.class.Entry.{Entry}
use Rattle.som_model.specs.declared.class.Entry.TheVariants as entries
use Rattle.som_model.specs.declared.class.ClassFace.{ClassFace}
use Rattle.som_model.specs.declared.class.ClassDecl.{ClassDecl}
use Rattle.som_model.specs.declared.program.Interface.{Interface}
use Rattle.som_model.specs.declared.program.Release.{Release}
use Rattle.som_model.specs.Lists.{find}

-- a declared class with its key
pub record Class : Type 0 where
  pub key : ClassKey
  pub decl : ClassDecl

-- a class of a module
abbrev pub class_in : Module → ClassDecl → Class
class_in m d = record { key = keys.Named m d.face.name; decl = d }

-- a class of which the face alone is known
abbrev pub bare : ClassFace → ClassDecl
bare f = record { face = f; variables = []; bodies = []; overrides = []; selects = [] }

-- the faces of a release's classes
abbrev pub interface_of : Release → Interface
interface_of r = record { classes = map (λ c. c.face) r.classes }

abbrev pub entry_name : Entry → List ℕ
entry_name (entries.Introduced name sig way) = name
entry_name (entries.Moved name to) = name

-- the names that the entries introduce, in order
abbrev pub introduced : List Entry → List (List ℕ)
introduced [] = []
introduced (entries.Introduced name sig way ∷ es) = name ∷ introduced es
introduced (entries.Moved name to ∷ es) = introduced es

-- the entry of a name
abbrev pub entry_of : List Entry → List ℕ → Option Entry
entry_of es name = find (λ e. bytes_eq (entry_name e) name) es

-- the signature of an entry that is introduced
abbrev pub introduced_sig : Option Entry → Option Sig
introduced_sig None = None
introduced_sig (Some (entries.Introduced name sig way)) = Some sig
introduced_sig (Some (entries.Moved name to)) = None
