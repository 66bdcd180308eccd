-- The methods, variables and parents that names in texts stand for.
use Rattle.std.specs.Prelude.{ℕ, List, Option, Some, None}
use Rattle.std.specs.Str.{bytes_eq}
use Rattle.som_model.specs.declared.key.ClassKey.{ClassKey}
use Rattle.som_model.specs.declared.key.MethodRef.{MethodRef}
use Rattle.som_model.specs.declared.key.ValueType.TheVariants as types
use Rattle.som_model.specs.declared.class.Sig.{Sig}
use Rattle.som_model.specs.declared.class.Way.{Way}
use Rattle.som_model.specs.declared.class.Entry.{Entry}
use Rattle.som_model.specs.declared.class.Entry.TheVariants as entries
use Rattle.som_model.specs.declared.class.Variable.{Variable}
use Rattle.som_model.specs.Lists.{place_from}
use Rattle.som_model.specs.Keys.{same_key}
use Rattle.som_model.specs.Resolution.{byname}
use Rattle.som_model.specs.Class.{Class}
use Rattle.som_model.specs.Classes.{hierarchy}
use Rattle.som_model.specs.Owner.{entry_at, introduces}
use Rattle.som_model.specs.Typing.{ExprType, Of}

-- a method that a class has: the class that introduces it, its signature and the way in which it is called
pub record Method : Type 0 where
  pub ref : MethodRef
  pub sig : Sig
  pub way : Way

-- the method of an entry that is introduced
abbrev pub introduced_method : MethodRef → Option Entry → Option Method
introduced_method r None = None
introduced_method r (Some (entries.Introduced name sig way)) = Some (record { ref = r; sig = sig; way = way })
introduced_method r (Some (entries.Moved name to)) = None

abbrev pub method_by : List Class → List ℕ → Option ClassKey → Option Method
method_by cs name None = None
method_by cs name (Some a) = introduced_method (record { class = a; name = name }) (entry_at cs a name)

-- the method of a name: that of the first ancestor that introduces it
abbrev pub method_of : List Class → ClassKey → List ℕ → Option Method
method_of cs k name = method_by cs name (byname (hierarchy cs) (introduces cs name) k)

-- the method that an object of a type has
abbrev pub method_for : List Class → ExprType → List ℕ → Option Method
method_for cs (Of (types.Class k)) name = method_of cs k name
method_for cs _ name = None

-- the method that the class of a body has
abbrev pub own_method : List Class → Option Class → List ℕ → Option Method
own_method cs None name = None
own_method cs (Some c) name = method_of cs c.key name

-- the place of a variable of the body's class
abbrev pub variable_place : Option Class → List ℕ → Option ℕ
variable_place None name = None
variable_place (Some c) name = place_from 0 (λ (v : Variable). bytes_eq v.name name) c.decl.variables

-- the place of a parent of the body's class
abbrev pub parent_place : Option Class → ClassKey → Option ℕ
parent_place None k = None
parent_place (Some c) k = place_from 0 (same_key k) c.decl.face.parents
