-- The texts of the client that shows a breach, and where it has some.
use Rattle.std.specs.Prelude.{ℕ, zero, suc, Bool, true, false, not, ◌&&◌, if◌then◌else◌, List, [], ◌∷◌, ◌++◌, map, Option, Some, None, codes, unwrap_or}
use Rattle.std.specs.Fmt.{decimal}
use Rattle.std.specs.Str.{bytes_eq}
use Rattle.som_model.specs.declared.key.ClassKey.{ClassKey}
use Rattle.som_model.specs.declared.key.MethodRef.{MethodRef}
use Rattle.som_model.specs.declared.key.ValueType.{ValueType}
use Rattle.som_model.specs.declared.key.ValueType.TheVariants as types
use Rattle.som_model.specs.declared.class.Way.TheVariants as ways
use Rattle.som_model.specs.declared.class.Entry.{Entry}
use Rattle.som_model.specs.declared.class.Entry.TheVariants as entries
use Rattle.som_model.specs.declared.program.Interface.{Interface}
use Rattle.som_model.specs.Owner.{entry_at}
use Rattle.som_model.specs.Compatible.{CompatBreach, declared_name, release_of}
use Rattle.som_lex.specs.Spelling.{is_word}
use Rattle.som_idl.specs.Grammar as interfaces
use Rattle.som_body.specs.Grammar as bodies
use Rattle.som_witness.specs.declared.verdict.Texts.{Texts}
use Rattle.som_witness.specs.Program.{w_name}
use Rattle.som_witness.specs.Showings.{Showing, StandsBelow, KeepsObject, Overrides, CallsSlot, Calls, Passes, KeepsParameter, ReturnsNothing, ReturnsVariable, ReturnsAnswer, ReturnsClass, showing_of, told_method}

-- ---- words

abbrev pub class_text : ClassKey → List ℕ
class_text k = unwrap_or (declared_name k) []

abbrev pub type_text : ValueType → List ℕ
type_text types.Void = codes "void"
type_text types.Long = codes "long"
type_text types.Boolean = codes "boolean"
type_text types.Str = codes "string"
type_text (types.Class k) = class_text k

abbrev pub zero_text : ValueType → List ℕ
zero_text types.Void = codes "nil"
zero_text types.Long = codes "0"
zero_text types.Boolean = codes "FALSE"
zero_text types.Str = 34 ∷ 34 ∷ []
zero_text (types.Class k) = codes "nil"

-- one after the other, with a comma and a blank between
abbrev pub listed : List (List ℕ) → List ℕ
listed [] = []
listed (x ∷ []) = x
listed (x ∷ y ∷ xs) = x ++ codes ", " ++ listed (y ∷ xs)

-- the names of the parameters, from p and this number on
abbrev pub parameters : ℕ → List ValueType → List (List ℕ)
parameters n [] = []
parameters n (p ∷ ps) = (codes "p" ++ decimal n) ∷ parameters (suc n) ps

-- the zero values as literals
abbrev pub zero_texts : List ValueType → List (List ℕ)
zero_texts params = map zero_text params

-- and x at this place
abbrev pub zero_texts_with : ℕ → List ValueType → List (List ℕ)
zero_texts_with n [] = []
zero_texts_with zero (p ∷ ps) = codes "x" ∷ zero_texts ps
zero_texts_with (suc n) (p ∷ ps) = zero_text p ∷ zero_texts_with n ps

-- ---- the interface

abbrev pub interface_text : List ℕ → List ℕ → List ℕ → List ℕ
interface_text w parent members = codes "interface " ++ w ++ codes " : " ++ parent ++ codes " {" ++ members ++ codes " };"

-- the method g, with a result and parameters
abbrev pub g_text : List ℕ → List ℕ → List ℕ
g_text result params = codes " " ++ result ++ codes " g(" ++ params ++ codes ");"

abbrev pub in_c : ClassKey → List ℕ
in_c c = codes "in " ++ class_text c ++ codes " c"

abbrev pub section_text : List ℕ → List ℕ
section_text items = codes " implementation {" ++ items ++ codes " };"

abbrev pub override_text : List ℕ → List ℕ
override_text m = codes " " ++ m ++ codes ": override;"

abbrev pub variable_text : ValueType → List ℕ
variable_text kind = codes " " ++ type_text kind ++ codes " v;"

-- a class below C that overrides m
abbrev pub override_interface : List ℕ → MethodRef → List ℕ → List ℕ
override_interface w m variables = interface_text w (class_text m.class) (section_text (override_text m.name ++ variables))

-- a class below SOMObject with the method g
abbrev pub g_interface : List ℕ → List ℕ → List ℕ → List ℕ → List ℕ
g_interface w result params section = interface_text w (codes "SOMObject") (g_text result params ++ section)

abbrev pub idl_text : List ℕ → MethodRef → Showing → List ℕ
idl_text w m StandsBelow = interface_text w (class_text m.class) []
idl_text w m (KeepsObject a) = g_interface w (codes "void") (in_c m.class) (section_text (variable_text (types.Class a)))
idl_text w m (Overrides params) = override_interface w m []
idl_text w m (CallsSlot params) = g_interface w (codes "void") (in_c m.class) []
idl_text w m (Calls params) = g_interface w (codes "void") (in_c m.class) []
idl_text w m (Passes params j kind) = g_interface w (codes "void") (in_c m.class ++ codes ", in " ++ type_text kind ++ codes " x") []
idl_text w m (KeepsParameter params j kind) = override_interface w m (variable_text kind)
idl_text w m (ReturnsNothing params) = override_interface w m []
idl_text w m (ReturnsVariable params kind) = override_interface w m (variable_text kind)
idl_text w m (ReturnsAnswer params kind) = g_interface w (type_text kind) (in_c m.class) []
idl_text w m (ReturnsClass k) = g_interface w (class_text k) [] []

-- ---- the body

abbrev pub body_text : List ℕ → List ℕ → List ℕ → List ℕ → List ℕ
body_text w m params statements = w ++ codes "::" ++ m ++ codes "(" ++ params ++ codes ") {" ++ statements ++ codes " }"

abbrev pub call_text : List ℕ → List (List ℕ) → List ℕ
call_text m args = codes "c." ++ m ++ codes "(" ++ listed args ++ codes ");"

-- the body of m, whose parameters are these
abbrev pub override_body : List ℕ → MethodRef → List ValueType → List ℕ → List ℕ
override_body w m params statements = body_text w m.name (listed (parameters 0 params)) statements

abbrev pub bodies_text : List ℕ → MethodRef → Showing → List ℕ
bodies_text w m StandsBelow = []
bodies_text w m (KeepsObject a) = body_text w (codes "g") (codes "c") (codes " somThis.v = c;")
bodies_text w m (Overrides params) = override_body w m params []
bodies_text w m (CallsSlot params) = []
bodies_text w m (Calls params) = body_text w (codes "g") (codes "c") (codes " " ++ call_text m.name (zero_texts params))
bodies_text w m (Passes params j kind) = body_text w (codes "g") (codes "c, x") (codes " " ++ call_text m.name (zero_texts_with j params))
bodies_text w m (KeepsParameter params j kind) = override_body w m params (codes " somThis.v = p" ++ decimal j ++ codes ";")
bodies_text w m (ReturnsNothing params) = override_body w m params (codes " return;")
bodies_text w m (ReturnsVariable params kind) = override_body w m params (codes " return somThis.v;")
bodies_text w m (ReturnsAnswer params kind) = body_text w (codes "g") (codes "c") (codes " return " ++ call_text m.name (zero_texts params))
bodies_text w m (ReturnsClass k) = body_text w (codes "g") [] (codes " return class " ++ class_text m.class ++ codes ";")

-- ---- where there are texts

-- whether a call of the entry by its name in a text is one by its slot
abbrev pub goes_by_slot : Option Entry → Bool
goes_by_slot (Some (entries.Introduced name sig ways.Lookup)) = false
goes_by_slot (Some (entries.Introduced name sig ways.Offset)) = true
goes_by_slot (Some (entries.Moved name to)) = true
goes_by_slot None = true

-- a type that is a class has a name of an interface file
abbrev pub type_is_named : ValueType → Bool
type_is_named (types.Class k) = interfaces.is_name_text (class_text k)
type_is_named _ = true

-- an interface file may say that m is overridden: `releaseorder` before a colon means something else there
abbrev pub can_override : MethodRef → Bool
can_override m = interfaces.is_name_text (class_text m.class) && (interfaces.is_name_text m.name && not (bytes_eq m.name (codes "releaseorder")))

-- a body may call m on a C by its slot
abbrev pub can_call : Interface → MethodRef → Bool
can_call old m = interfaces.is_name_text (class_text m.class) && (is_word m.name && goes_by_slot (entry_at (release_of old) m.class m.name))

-- Whether texts say what W does: none call a slot that was moved, none call by a slot what goes by its name, none override
-- `releaseorder`, and each name has to be one where it would stand.
unfoldable pub has_text : Interface → MethodRef → Showing → Bool
has_text old m StandsBelow = interfaces.is_name_text (class_text m.class)
has_text old m (KeepsObject a) = interfaces.is_name_text (class_text m.class) && interfaces.is_name_text (class_text a)
has_text old m (Overrides params) = can_override m
has_text old m (CallsSlot params) = false
has_text old m (Calls params) = can_call old m
has_text old m (Passes params j kind) = can_call old m && type_is_named kind
has_text old m (KeepsParameter params j kind) = can_override m && type_is_named kind
has_text old m (ReturnsNothing params) = can_override m
has_text old m (ReturnsVariable params kind) = can_override m && type_is_named kind
has_text old m (ReturnsAnswer params kind) = can_call old m && type_is_named kind
has_text old m (ReturnsClass k) = bodies.is_name_text (class_text m.class) && interfaces.is_name_text (class_text k)

-- the texts: the interface file, the bodies, of which a class that is only below C has none, and the main
abbrev pub texts_of : List ℕ → MethodRef → Showing → Texts
texts_of w m s = record { idl = idl_text w m s; bodies = bodies_text w m s; main = codes "main { }" }

-- the texts of the client that shows a breach, if it has some
unfoldable pub witness_texts : Interface → Interface → CompatBreach → Option Texts
witness_texts old new b =
    let s = showing_of old new b in
    let m = told_method b in
    if has_text old m s then Some (texts_of (w_name old) m s) else None
