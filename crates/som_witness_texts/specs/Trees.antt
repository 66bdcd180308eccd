-- The trees that the texts of the client that shows a breach stand for: each word has its place among the tokens of its text.
use Rattle.std.specs.Prelude.{ℕ, zero, suc, ◌+◌, ◌*◌, false, List, [], ◌∷◌, ◌++◌, length, map, codes, Option, Some, None}
use Rattle.std.specs.Fmt.{decimal}
use Rattle.som_model.specs.declared.key.ClassKey.{ClassKey}
use Rattle.som_model.specs.declared.key.MethodRef.{MethodRef}
use Rattle.som_model.specs.declared.key.ValueType.{ValueType}
use Rattle.som_model.specs.declared.key.ValueType.TheVariants as types
use Rattle.som_ast.specs.declared.words.TypeName.{TypeName}
use Rattle.som_ast.specs.declared.words.TypeName.TheVariants as names
use Rattle.som_ast.specs.declared.words.Word.{Word}
use Rattle.som_ast.specs.declared.interface.Export.{Export}
use Rattle.som_ast.specs.declared.interface.Export.TheVariants as exports
use Rattle.som_ast.specs.declared.interface.IdlFile.{IdlFile}
use Rattle.som_ast.specs.declared.interface.IdlInterface.{IdlInterface}
use Rattle.som_ast.specs.declared.interface.Item.{Item}
use Rattle.som_ast.specs.declared.interface.Item.TheVariants as items
use Rattle.som_ast.specs.declared.interface.Modifier.TheVariants as modifiers
use Rattle.som_ast.specs.declared.interface.Param.{Param}
use Rattle.som_ast.specs.declared.expression.ExprText.{ExprText}
use Rattle.som_ast.specs.declared.expression.ExprText.TheVariants as expr
use Rattle.som_ast.specs.declared.body.BlockText.{BlockText}
use Rattle.som_ast.specs.declared.body.BodyFile.{BodyFile}
use Rattle.som_ast.specs.declared.body.BodyText.{BodyText}
use Rattle.som_ast.specs.declared.body.MainFile.{MainFile}
use Rattle.som_ast.specs.declared.body.StmtText.{StmtText}
use Rattle.som_ast.specs.declared.body.StmtText.TheVariants as stmt
use Rattle.som_witness.specs.Wording.{class_text, type_text}
use Rattle.som_witness.specs.Showings.{Showing, StandsBelow, KeepsObject, Overrides, CallsSlot, Calls, Passes, KeepsParameter, ReturnsNothing, ReturnsVariable, ReturnsAnswer, ReturnsClass}

-- ---- words and types

-- the word with this text at this place
abbrev pub word_at : ℕ → List ℕ → Word
word_at p text = record { text = text; token = p }

-- the type at this place; void is none, and stands in no text as one
abbrev pub type_at : ℕ → ValueType → TypeName
type_at p types.Long = names.Long
type_at p types.Boolean = names.Boolean
type_at p types.Str = names.Str
type_at p types.Void = names.Class (word_at p (type_text types.Void))
type_at p (types.Class k) = names.Class (word_at p (class_text k))

-- the result at this place, where void is none
abbrev pub result_at : ℕ → ValueType → Option TypeName
result_at p types.Void = None
result_at p types.Long = Some names.Long
result_at p types.Boolean = Some names.Boolean
result_at p types.Str = Some names.Str
result_at p (types.Class k) = Some (names.Class (word_at p (class_text k)))

-- ---- the interface

-- an interface with one parent, these exports and these items
abbrev pub interface_with : List ℕ → List ℕ → List Export → List Item → IdlInterface
interface_with w parent before items = record { name = word_at 1 w; parents = word_at 3 parent ∷ []; before = before; items = items; after = [] }

-- a parameter whose type stands at this place
abbrev pub param_at : ℕ → ValueType → List ℕ → Param
param_at p kind name = record { kind = type_at p kind; name = word_at (p + 1) name }

-- the parameter c
abbrev pub param_c : ClassKey → Param
param_c c = param_at 9 (types.Class c) (codes "c")

-- the method g
abbrev pub operation_g : Option TypeName → List Param → Export
operation_g result params = exports.Operation result (word_at 6 (codes "g")) params

-- the variable v, whose type stands at this place
abbrev pub variable_v : ℕ → ValueType → Item
variable_v p kind = items.Variables (type_at p kind) (word_at (p + 1) (codes "v") ∷ [])

-- the method of this name is overridden
abbrev pub override_of : List ℕ → Item
override_of m = items.Method (word_at 7 m) (modifiers.Override ∷ [])

-- an interface below C that overrides m, and has these variables
abbrev pub interface_over : List ℕ → MethodRef → List Item → IdlInterface
interface_over w m variables = interface_with w (class_text m.class) [] (override_of m.name ∷ variables)

-- an interface below SOMObject with the method g, and with these variables
abbrev pub interface_g : List ℕ → Option TypeName → List Param → List Item → IdlInterface
interface_g w result params variables = interface_with w (codes "SOMObject") (operation_g result params ∷ []) variables

-- W's interface, for the told method and its class
abbrev pub w_interface : List ℕ → MethodRef → Showing → IdlInterface
w_interface w m StandsBelow = interface_with w (class_text m.class) [] []
w_interface w m (KeepsObject a) = interface_g w None (param_c m.class ∷ []) (variable_v 15 (types.Class a) ∷ [])
w_interface w m (Overrides params) = interface_over w m []
w_interface w m (CallsSlot params) = interface_g w None (param_c m.class ∷ []) []
w_interface w m (Calls params) = interface_g w None (param_c m.class ∷ []) []
w_interface w m (Passes params j kind) = interface_g w None (param_c m.class ∷ param_at 13 kind (codes "x") ∷ []) []
w_interface w m (KeepsParameter params j kind) = interface_over w m (variable_v 11 kind ∷ [])
w_interface w m (ReturnsNothing params) = interface_over w m []
w_interface w m (ReturnsVariable params kind) = interface_over w m (variable_v 11 kind ∷ [])
w_interface w m (ReturnsAnswer params kind) = interface_g w (result_at 5 kind) (param_c m.class ∷ []) []
w_interface w m (ReturnsClass k) = interface_g w (result_at 5 (types.Class k)) [] []

-- the tree of the interface file
abbrev pub idl_tree : List ℕ → MethodRef → Showing → IdlFile
idl_tree w m s = record { interfaces = w_interface w m s ∷ [] }

-- ---- the bodies

-- the name at this place
abbrev pub name_at : ℕ → List ℕ → ExprText
name_at p text = expr.Name (word_at p text)

-- the value of a type that a new variable has, as a literal
abbrev pub zero_tree : ValueType → ExprText
zero_tree types.Void = expr.Nil
zero_tree types.Long = expr.Number 0
zero_tree types.Boolean = expr.Boolean false
zero_tree types.Str = expr.Literal []
zero_tree (types.Class k) = expr.Nil

abbrev pub zero_trees : List ValueType → List ExprText
zero_trees params = map zero_tree params

-- and x in the place of the nth, where the first of them stands at place p
abbrev pub zero_trees_with : ℕ → ℕ → List ValueType → List ExprText
zero_trees_with p n [] = []
zero_trees_with p zero (t ∷ ts) = name_at p (codes "x") ∷ zero_trees ts
zero_trees_with p (suc n) (t ∷ ts) = zero_tree t ∷ zero_trees_with (p + 2) n ts

-- the names of the parameters, from p and the number n on, where the first of them stands at this place
abbrev pub parameter_words : ℕ → ℕ → List ValueType → List Word
parameter_words place n [] = []
parameter_words place n (t ∷ ts) = word_at place (codes "p" ++ decimal n) ∷ parameter_words (place + 2) (suc n) ts

-- how many tokens so many names are, with the commas between them
abbrev pub listed_tokens : ℕ → ℕ
listed_tokens zero = 0
listed_tokens (suc n) = 1 + 2 * n

-- where the first statement of a body with so many parameters stands
abbrev pub first_statement : ℕ → ℕ
first_statement n = 6 + listed_tokens n

-- the block of at most one statement
abbrev pub block_of : List StmtText → BlockText
block_of statements = record { statements = statements }

-- the body of a method of W
abbrev pub body_tree : List ℕ → List ℕ → List Word → List StmtText → BodyText
body_tree w m params statements = record { class = word_at 0 w; method = word_at 2 m; params = params; block = block_of statements }

-- the body of g with the parameter c
abbrev pub body_of_g : List ℕ → StmtText → BodyText
body_of_g w statement = body_tree w (codes "g") (word_at 4 (codes "c") ∷ []) (statement ∷ [])

-- the body of m, whose parameters are these
abbrev pub override_tree : List ℕ → MethodRef → List ValueType → List StmtText → BodyText
override_tree w m params statements = body_tree w m.name (parameter_words 4 0 params) statements

-- a call of the method on c, which stands at this place
abbrev pub call_on_c : ℕ → List ℕ → List ExprText → ExprText
call_on_c p m args = expr.Call (name_at p (codes "c")) (word_at (p + 2) m) args

-- the variable v takes a value; the statement begins at this place
abbrev pub set_v : ℕ → ExprText → StmtText
set_v p value = stmt.SetVariable (word_at (p + 2) (codes "v")) value

-- the value of the variable v is returned; the statement begins at this place
abbrev pub return_v : ℕ → StmtText
return_v p = stmt.Return (Some (expr.Variable (word_at (p + 3) (codes "v"))))

-- the parameter of this number is kept in the variable v; the statement begins at this place
abbrev pub keep_parameter : ℕ → ℕ → StmtText
keep_parameter p j = set_v p (name_at (p + 4) (codes "p" ++ decimal j))

-- the bodies of W's methods, for the told method and its class
abbrev pub w_bodies : List ℕ → MethodRef → Showing → List BodyText
w_bodies w m StandsBelow = []
w_bodies w m (KeepsObject a) = body_of_g w (set_v 7 (name_at 11 (codes "c"))) ∷ []
w_bodies w m (Overrides params) = override_tree w m params [] ∷ []
w_bodies w m (CallsSlot params) = []
w_bodies w m (Calls params) = body_of_g w (stmt.Call (call_on_c 7 m.name (zero_trees params))) ∷ []
w_bodies w m (Passes params j kind) =
    body_tree w (codes "g") (word_at 4 (codes "c") ∷ word_at 6 (codes "x") ∷ []) (stmt.Call (call_on_c 9 m.name (zero_trees_with 13 j params)) ∷ []) ∷ []
w_bodies w m (KeepsParameter params j kind) = override_tree w m params (keep_parameter (first_statement (length params)) j ∷ []) ∷ []
w_bodies w m (ReturnsNothing params) = override_tree w m params (stmt.Return None ∷ []) ∷ []
w_bodies w m (ReturnsVariable params kind) = override_tree w m params (return_v (first_statement (length params)) ∷ []) ∷ []
w_bodies w m (ReturnsAnswer params kind) = body_of_g w (stmt.Return (Some (call_on_c 8 m.name (zero_trees params)))) ∷ []
w_bodies w m (ReturnsClass k) = body_tree w (codes "g") [] (stmt.Return (Some (expr.Class (word_at 8 (class_text m.class)))) ∷ []) ∷ []

-- the tree of the bodies
abbrev pub bodies_tree : List ℕ → MethodRef → Showing → BodyFile
bodies_tree w m s = record { bodies = w_bodies w m s }

-- ---- the main

-- the tree of a main without statements
abbrev pub main_tree : MainFile
main_tree = record { block = block_of [] }
