-- The client that shows a breach: its one class W, and an empty main.
use Rattle.std.specs.Prelude.{◌≡◌, ℕ, zero, suc, ◌<◌, pos, true, false, if◌then◌else◌, List, [], ◌∷◌, ◌++◌, length, map, codes, None}
use Rattle.std.specs.Fmt.{decimal}
use Rattle.som_model.specs.declared.key.ClassKey.{ClassKey}
use Rattle.som_model.specs.declared.key.MethodRef.{MethodRef}
use Rattle.som_model.specs.declared.key.ValueType.{ValueType}
use Rattle.som_model.specs.declared.key.ValueType.TheVariants as types
use Rattle.som_model.specs.declared.syntax.Expr.{Expr}
use Rattle.som_model.specs.declared.syntax.Expr.TheVariants as exprs
use Rattle.som_model.specs.declared.syntax.Stmt.{Stmt}
use Rattle.som_model.specs.declared.syntax.Stmt.TheVariants as stmts
use Rattle.som_model.specs.declared.class.Sig.{Sig}
use Rattle.som_model.specs.declared.class.Way.TheVariants as ways
use Rattle.som_model.specs.declared.class.Entry.{Entry}
use Rattle.som_model.specs.declared.class.Entry.TheVariants as entries
use Rattle.som_model.specs.declared.class.Body.TheVariants as bodies
use Rattle.som_model.specs.declared.class.Variable.{Variable}
use Rattle.som_model.specs.declared.class.ClassFace.{ClassFace}
use Rattle.som_model.specs.declared.class.ClassDecl.{ClassDecl}
use Rattle.som_model.specs.declared.program.Interface.{Interface}
use Rattle.som_model.specs.declared.program.ClientProgram.{ClientProgram}
use Rattle.som_model.specs.Lists.{among}
use Rattle.som_model.specs.Kernel.{som_object}
use Rattle.som_model.specs.Compatible.{CompatBreach}
use Rattle.som_witness.specs.Showings.{Showing, StandsBelow, KeepsObject, Overrides, CallsSlot, Calls, Passes, KeepsParameter, ReturnsNothing, ReturnsVariable, ReturnsAnswer, ReturnsClass, showing_of, told_method}

-- ---- W's name

-- W with a number
abbrev pub numbered_w : ℕ → List ℕ
numbered_w n = codes "W" ++ decimal n

abbrev pub class_names : Interface → List (List ℕ)
class_names i = map (λ f. f.name) i.classes

-- the first number from n with which W is none of these names, where so many more are tried
abbrev pub free_from : List (List ℕ) → ℕ → ℕ → ℕ
free_from names zero n = n
free_from names (suc left) n = if among (numbered_w n) names then free_from names left (suc n) else n

-- W's name above this interface
unfoldable pub w_name : Interface → List ℕ
w_name old = numbered_w (free_from (class_names old) (length old.classes) 0)

-- W with the least number with which it is no class name of the interface
pub record IsW (old : Interface) (name : List ℕ) : Type 0 where
  pub number : ℕ
  pub is : name ≡ numbered_w number
  pub free : among name (class_names old) ≡ false
  pub least : (i : ℕ) → i < number → among (numbered_w i) (class_names old) ≡ true

-- ---- its parts

-- a face of version 0.0 with one parent and no metaclass
abbrev pub w_face : List ℕ → ClassKey → List Entry → ClassFace
w_face name parent entries = record { name = name; major = 0; minor = 0; parents = parent ∷ []; metaclass = None; entries = entries }

-- the variable v
abbrev pub variable_v : ValueType → List Variable
variable_v kind = record { name = codes "v"; kind = kind } ∷ []

-- a class below this one, and no more
abbrev pub plain_below : List ℕ → ClassKey → ClassDecl
plain_below name parent = record { face = w_face name parent []; variables = []; bodies = []; overrides = []; selects = [] }

-- a class below SOMObject that introduces the method g
abbrev pub with_g : List ℕ → Sig → List Variable → List Stmt → ClassDecl
with_g name sig variables body = record {
  face = w_face name som_object (entries.Introduced (codes "g") sig ways.Offset ∷ []);
  variables = variables;
  bodies = bodies.User (record { statements = body }) ∷ [];
  overrides = [];
  selects = [];
}

-- a class below that of the method, which overrides it
abbrev pub with_override : List ℕ → MethodRef → List Variable → List Stmt → ClassDecl
with_override name m variables body = record {
  face = w_face name m.class [];
  variables = variables;
  bodies = [];
  overrides = record { method = m; block = record { statements = body } } ∷ [];
  selects = [];
}

abbrev pub sig_g : ValueType → List ValueType → Sig
sig_g result params = record { result = result; params = params }

-- the value of a type that a new variable has, as a literal; no parameter is void
abbrev pub zero_value : ValueType → Expr
zero_value types.Void = exprs.Nil
zero_value types.Long = exprs.Long (pos 0)
zero_value types.Boolean = exprs.Boolean false
zero_value types.Str = exprs.Str []
zero_value (types.Class k) = exprs.Nil

abbrev pub zero_values : List ValueType → List Expr
zero_values params = map zero_value params

-- zero values, but for the parameter x at this place
abbrev pub zero_values_with : ℕ → List ValueType → List Expr
zero_values_with n [] = []
zero_values_with zero (p ∷ ps) = exprs.Local 1 ∷ zero_values ps
zero_values_with (suc n) (p ∷ ps) = zero_value p ∷ zero_values_with n ps

-- a call of the method on the first parameter, by its slot
abbrev pub call_on_c : MethodRef → List Expr → Expr
call_on_c m args = exprs.OffsetCall m (exprs.Local 0) args

-- ---- W and the program

-- the class W of this name, for the told method and its class
abbrev pub w_class : List ℕ → MethodRef → Showing → ClassDecl
w_class name m StandsBelow = plain_below name m.class
w_class name m (KeepsObject a) = with_g name (sig_g types.Void (types.Class m.class ∷ [])) (variable_v (types.Class a)) (stmts.SetVariable 0 (exprs.Local 0) ∷ [])
w_class name m (Overrides params) = with_override name m [] []
w_class name m (CallsSlot params) = with_g name (sig_g types.Void (types.Class m.class ∷ [])) [] (stmts.Call (call_on_c m (zero_values params)) ∷ [])
w_class name m (Calls params) = with_g name (sig_g types.Void (types.Class m.class ∷ [])) [] (stmts.Call (call_on_c m (zero_values params)) ∷ [])
w_class name m (Passes params j kind) = with_g name (sig_g types.Void (types.Class m.class ∷ kind ∷ [])) [] (stmts.Call (call_on_c m (zero_values_with j params)) ∷ [])
w_class name m (KeepsParameter params j kind) = with_override name m (variable_v kind) (stmts.SetVariable 0 (exprs.Local j) ∷ [])
w_class name m (ReturnsNothing params) = with_override name m [] (stmts.Return ∷ [])
w_class name m (ReturnsVariable params kind) = with_override name m (variable_v kind) (stmts.ReturnValue (exprs.Variable 0) ∷ [])
w_class name m (ReturnsAnswer params kind) = with_g name (sig_g kind (types.Class m.class ∷ [])) [] (stmts.ReturnValue (call_on_c m (zero_values params)) ∷ [])
w_class name m (ReturnsClass k) = with_g name (sig_g (types.Class k) []) [] (stmts.ReturnValue (exprs.Class m.class) ∷ [])

-- a client with one class and an empty main
abbrev pub one_class : Interface → ClassDecl → ClientProgram
one_class base w = record { base = base; classes = w ∷ []; main = record { statements = [] } }

-- the client that shows a breach
unfoldable pub witness_program : Interface → Interface → CompatBreach → ClientProgram
witness_program old new b = one_class old (w_class (w_name old) (told_method b) (showing_of old new b))
