-- The lines that show a release or a client program: its classes and their release orders.
use Rattle.std.specs.Prelude.{ℕ, suc, List, [], ◌∷◌, ◌++◌, map, flat_map, length, codes, Option, Some, None}
use Rattle.std.specs.Fmt.{decimal}
use Rattle.som_model.specs.declared.key.ClassKey.{ClassKey}
use Rattle.som_model.specs.declared.key.ValueType.{ValueType}
use Rattle.som_model.specs.declared.key.ValueType.TheVariants as types
use Rattle.som_model.specs.declared.class.Sig.{Sig}
use Rattle.som_model.specs.declared.class.Way.{Way}
use Rattle.som_model.specs.declared.class.Way.TheVariants as ways
use Rattle.som_model.specs.declared.class.Entry.{Entry}
use Rattle.som_model.specs.declared.class.Entry.TheVariants as entries
use Rattle.som_model.specs.declared.class.ClassFace.{ClassFace}
use Rattle.som_model.specs.declared.class.ClassDecl.{ClassDecl}
use Rattle.som_model.specs.declared.program.Release.{Release}
use Rattle.som_model.specs.declared.program.ClientProgram.{ClientProgram}
use Rattle.som_model.specs.ClassNames.{class_name, name_list}

-- ---- types

-- a type as IDL writes it
abbrev pub type_name : ValueType → List ℕ
type_name types.Void = codes "void"
type_name types.Long = codes "long"
type_name types.Boolean = codes "boolean"
type_name types.Str = codes "string"
type_name (types.Class k) = class_name k

-- ---- entries

-- what follows a method that is called by its name
abbrev pub way_text : Way → List ℕ
way_text ways.Offset = []
way_text ways.Lookup = codes " namelookup"

-- `RESULT NAME(TYPES)`
abbrev pub method_text : List ℕ → Sig → List ℕ
method_text name sig = type_name sig.result ++ codes " " ++ name ++ codes "(" ++ name_list (map type_name sig.params) ++ codes ")"

-- a method that is introduced, or `NAME -> CLASS` for one that was moved up
abbrev pub entry_text : Entry → List ℕ
entry_text (entries.Introduced name sig way) = method_text name sig ++ way_text way
entry_text (entries.Moved name to) = name ++ codes " -> " ++ class_name to

-- an entry with its place
abbrev pub entry_line : ℕ → Entry → List ℕ
entry_line place entry = codes "  " ++ decimal place ++ codes " " ++ entry_text entry ++ 10 ∷ []

-- entries of which the first has this place
abbrev pub entry_lines : ℕ → List Entry → List (List ℕ)
entry_lines place [] = []
entry_lines place (e ∷ es) = entry_line place e ∷ entry_lines (suc place) es

-- ---- classes

-- `class NAME MAJOR.MINOR : P1,P2`
abbrev pub class_line : ClassFace → List ℕ
class_line f = codes "class " ++ f.name ++ codes " " ++ decimal f.major ++ codes "." ++ decimal f.minor ++ codes " : " ++ name_list (map class_name f.parents) ++ 10 ∷ []

-- the metaclass, where one is declared
abbrev pub metaclass_lines : Option ClassKey → List (List ℕ)
metaclass_lines None = []
metaclass_lines (Some k) = (codes "  metaclass " ++ class_name k ++ 10 ∷ []) ∷ []

-- what is seen of a class: its line, its metaclass and its entries from place 0 on
abbrev pub face_lines : ClassFace → List (List ℕ)
face_lines f = class_line f ∷ metaclass_lines f.metaclass ++ entry_lines 0 f.entries

-- ---- releases

-- `library` and the number of classes
abbrev pub library_line : ℕ → List ℕ
library_line count = codes "library " ++ decimal count ++ 10 ∷ []

-- what is seen of declared classes
abbrev pub class_lines : List ClassDecl → List (List ℕ)
class_lines cs = flat_map (λ c. face_lines c.face) cs

-- a release: how many classes it has, and then each; every line with its end
abbrev pub shown_lines : Release → List (List ℕ)
shown_lines r = library_line (length r.classes) ∷ class_lines r.classes

-- ---- client programs

-- `client` and the number of classes
abbrev pub client_line : ℕ → List ℕ
client_line count = codes "client " ++ decimal count ++ 10 ∷ []

-- a client program: the classes that it was compiled against as those of a library, then how many classes it has of its own, and each
abbrev pub client_lines : ClientProgram → List (List ℕ)
client_lines p = (library_line (length p.base.classes) ∷ flat_map face_lines p.base.classes) ++ client_line (length p.classes) ∷ class_lines p.classes
