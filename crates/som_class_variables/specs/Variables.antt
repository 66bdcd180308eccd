-- The variables of objects, by class and by place.
use Rattle.std.specs.Prelude.{◌≡◌, ℕ, zero, suc, ◌<◌, List, [], flat_map, length, map, Option, Some, None}
use Rattle.som_model.specs.declared.key.ClassKey.{ClassKey}
use Rattle.som_model.specs.declared.key.ValueType.{ValueType}
use Rattle.som_model.specs.declared.class.Variable.{Variable}
use Rattle.som_model.specs.Class.{Class}
use Rattle.som_model.specs.Classes.{class_at, hierarchy}
use Rattle.som_model.specs.Keys.{same_key}
use Rattle.som_meta.specs.Numbering.{AreNumbered, IsNumbered, Numbering, key_at}
use Rattle.som_class_layout_laws.specs.Laying.{Method, Scheme}
use Rattle.som_class_layout_laws.specs.Places.{data_place, variables}

-- the types of these variables
abbrev pub types_of : List Variable → List ValueType
types_of vs = map (λ (v : Variable). v.kind) vs

-- the variables of a declared class, and none of another
abbrev pub variables_in : Option Class → List ValueType
variables_in None = []
variables_in (Some c) = types_of c.decl.variables

-- the types of a class's own variables, in their order
abbrev pub own_variables : List Class → ClassKey → List ValueType
own_variables cs k = variables_in (class_at cs k)

-- the types of the variables of an object of a class, by their places: its own, and then those of its ancestors in order
abbrev pub object_variables : List Class → ClassKey → List ValueType
object_variables cs x = variables (hierarchy cs) (own_variables cs) x

-- the types of the own variables of numbered classes, each class's after those of the classes before it
abbrev pub variables_over : Numbering → List ℕ → List ValueType
variables_over k ns = flat_map (own_variables k.classes) (map (key_at k) ns)

-- classes with numbers, and how many variables of their own they have together
pub record IsCounted (k : Numbering) (ns : List ℕ) (count : ℕ) : Type 0 where
  pub numbered : AreNumbered k ns
  pub count_is : count ≡ length (variables_over k ns)

-- the place of variable i of class a in an object of class x
abbrev pub place_in : List Class → ClassKey → ClassKey → ℕ → ℕ
place_in cs x a i = data_place (hierarchy cs) (own_variables cs) x a i

-- the token, which is a class and a place, is that of one of the class's own variables
abbrev pub IsVariable : Numbering → ℕ × ℕ → Type 0
IsVariable k t = IsNumbered k t.0 × (t.1 < length (own_variables k.classes (key_at k t.0)))

-- what laying sees of a class's variables, which stand one after the other: the class alone has them, and nobody selects them
abbrev pub variables_seen : Numbering → ℕ × ℕ → Method ClassKey
variables_seen k t = record { class = key_at k t.0; has_body = same_key (key_at k t.0); chosen = λ x. None }

-- a class with variables introduces one cell, for the place of its first, and another class none
abbrev pub cell_count : ℕ → ℕ
cell_count zero = 0
cell_count (suc variables) = 1

-- the numbered classes and their variables, as laying sees them
abbrev pub base_scheme : Numbering → Scheme ClassKey
base_scheme k = record { classes = hierarchy k.classes; count = length k.keys; key = key_at k; introduced = λ n. cell_count (length (own_variables k.classes (key_at k n))); method = variables_seen k }
