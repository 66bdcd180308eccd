-- What the names in a body stand for.
use Rattle.std.specs.Prelude.{◌≡◌, ℕ, List, slice_get, Some, Ok}
use Rattle.som_model.specs.declared.key.ClassKey.{ClassKey}
use Rattle.som_model.specs.declared.key.MethodRef.{MethodRef}
use Rattle.som_model.specs.declared.key.ValueType.TheVariants as types
use Rattle.som_model.specs.declared.class.Sig.{Sig}
use Rattle.som_model.specs.declared.class.Way.{Way}
use Rattle.som_model.specs.declared.class.Entry.TheVariants as entries
use Rattle.som_model.specs.declared.class.Variable.{Variable}
use Rattle.som_model.specs.declared.syntax.Expr.{Expr}
use Rattle.som_model.specs.Class.{Class}
use Rattle.som_model.specs.Classes.{hierarchy}
use Rattle.som_model.specs.Owner.{entry_at, introduces}
use Rattle.som_model.specs.Resolution.{byname}
use Rattle.som_model.specs.Typing.{CodePlace, Of, expr_type}
use Rattle.som_elab_body.specs.Expressions.{Among, facts_among}
use Rattle.som_elab_body.specs.Locals.{Names, kinds_of, names_of}

-- the parameter or local with this number has this name
abbrev pub IsLocal : Names → List ℕ → ℕ → Type 0
IsLocal scope name n = slice_get (names_of scope) n ≡ Some name

-- a class has a variable of this name with this number
pub record HasVariable (c : Class) (name : List ℕ) (n : ℕ) : Type 0 where
  pub variable : Variable
  pub there : slice_get c.decl.variables n ≡ Some variable
  pub named : variable.name ≡ name

-- the body's class has it
pub record IsVariable (at : CodePlace) (name : List ℕ) (n : ℕ) : Type 0 where
  pub class : Class
  pub own : at.class ≡ Some class
  pub has : HasVariable class name n

-- the parent of the body's class with this number is this class
pub record IsParent (at : CodePlace) (k : ClassKey) (n : ℕ) : Type 0 where
  pub class : Class
  pub own : at.class ≡ Some class
  pub there : slice_get class.decl.face.parents n ≡ Some k

-- the method of this name that a class has: of the class and its ancestors in their order, the first that introduces the name introduces it with this signature, to be called in this way
pub record HasMethod (cs : List Class) (k : ClassKey) (name : List ℕ) (method : MethodRef) (sig : Sig) (way : Way) : Type 0 where
  pub named : method.name ≡ name
  pub first : byname (hierarchy cs) (introduces cs name) k ≡ Some method.class
  pub entry : entry_at cs method.class name ≡ Some (entries.Introduced name sig way)

-- the expression is an object of this class, as far as its type says
abbrev pub IsOf : Among → CodePlace → Names → Expr → ClassKey → Type 0
IsOf a at scope e k = expr_type (facts_among a) at (kinds_of scope) e ≡ Ok (Of (types.Class k))
