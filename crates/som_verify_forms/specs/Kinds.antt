-- The types of expressions where a class goes by its place.
use Rattle.std.specs.Prelude.{◌≡◌, ℕ, ◌<◌, ◌≤◌, Bool, false, not, ◌&&◌, List, map, length, slice_get, Option, Some, None, Result, Ok, Err}
use Rattle.som_model.specs.declared.key.ValueType.{ValueType}
use Rattle.som_model.specs.declared.key.ValueType.TheVariants as types
use Rattle.som_model.specs.Lists.{Mem}
use Rattle.som_model.specs.Class.{Class}
use Rattle.som_model.specs.Steps.{◌>>=◌}
use Rattle.som_model.specs.Keys.{same_key}
use Rattle.som_model.specs.declared.key.ClassKey.{ClassKey}
use Rattle.som_model.specs.Typing.{ClassFacts, CodePlace, ExprType, Of, PlainNil, Ruled, Typed, value, values}
use Rattle.som_verify_forms.specs.declared.kind.Kind.{Kind}
use Rattle.som_verify_forms.specs.declared.kind.Kind.TheVariants as kinds
use Rattle.som_verify_forms.specs.declared.code_place.CodePlace.{CodePlace as Place}
use Rattle.som_verify_forms.specs.declared.code_place.TypeFault.{TypeFault}
use Rattle.som_verify_forms.specs.declared.code_place.TypeFault.TheVariants as faults
use Rattle.som_verify_classes.specs.Places.{class_of_place, key_at}

-- the type of an expression of this kind
abbrev pub kind_at : List Class → Kind → ExprType
kind_at cs kinds.Void = Of types.Void
kind_at cs kinds.Long = Of types.Long
kind_at cs kinds.Boolean = Of types.Boolean
kind_at cs kinds.Str = Of types.Str
kind_at cs kinds.Nil = PlainNil
kind_at cs (kinds.Class place) = Of (types.Class (key_at cs place))

-- the type that a kind is; no type is that of nil alone
abbrev pub type_at : List Class → Kind → ValueType
type_at cs kinds.Void = types.Void
type_at cs kinds.Long = types.Long
type_at cs kinds.Boolean = types.Boolean
type_at cs kinds.Str = types.Str
type_at cs kinds.Nil = types.Void
type_at cs (kinds.Class place) = types.Class (key_at cs place)

-- a kind is of a class that is there, if it is of a class
abbrev pub Stands : List Class → Kind → Type 0
Stands cs kinds.Void = Unit {0}
Stands cs kinds.Long = Unit {0}
Stands cs kinds.Boolean = Unit {0}
Stands cs kinds.Str = Unit {0}
Stands cs kinds.Nil = Unit {0}
Stands cs (kinds.Class place) = place < length cs

-- a kind is a type: it stands, and isn't that of nil alone
abbrev pub IsType : List Class → Kind → Type 0
IsType cs kinds.Void = Unit {0}
IsType cs kinds.Long = Unit {0}
IsType cs kinds.Boolean = Unit {0}
IsType cs kinds.Str = Unit {0}
IsType cs kinds.Nil = ⊥
IsType cs (kinds.Class place) = place < length cs

-- each kind stands
pub record AllStand (cs : List Class) (given : List Kind) : Type 0 where
  pub by : (kind : Kind) → Mem kind given → Stands cs kind

-- each kind is a type
pub record AreTypes (cs : List Class) (scope : List Kind) : Type 0 where
  pub by : (kind : Kind) → Mem kind scope → IsType cs kind

-- what a form comes to: a kind, or the rule that it breaks
abbrev pub Comes : List Class → Typed → Result Kind ℕ → Type 0
Comes cs typed (Ok kind) = (typed ≡ Ok (kind_at cs kind)) × Stands cs kind
Comes cs typed (Err rule) = typed ≡ Err rule

-- what looking up a type comes to: a kind, or the rule that it breaks
abbrev pub Names : List Class → Ruled ValueType → Result Kind ℕ → Type 0
Names cs ruled (Ok kind) = (ruled ≡ Ok (type_at cs kind)) × IsType cs kind
Names cs ruled (Err rule) = ruled ≡ Err rule

-- why code has no type: the rule that its first wrong construct breaks; want of memory says nothing
abbrev pub Fails : {A : Type 0} → Ruled A → TypeFault → Type 0
Fails typed (faults.Rule rule) = typed ≡ Err rule
Fails typed faults.NoMemory = Unit {0}

-- what an expression comes to: a kind, or why it has none
abbrev pub Types : List Class → Typed → Result Kind TypeFault → Type 0
Types cs typed (Ok kind) = (typed ≡ Ok (kind_at cs kind)) × Stands cs kind
Types cs typed (Err fault) = Fails typed fault

-- the kinds of parts in their order
pub record AreTyped (cs : List Class) (typed : Ruled (List ExprType)) (given : List Kind) : Type 0 where
  pub types : typed ≡ Ok (map (kind_at cs) given)
  pub stand : AllStand cs given

-- what a form comes to that looks at the type of one part, or at those of arguments
abbrev pub of_one : Typed → (ExprType → Typed) → Typed
of_one part form = value part >>= form

abbrev pub of_all : List Typed → (List ExprType → Typed) → Typed
of_all parts form = values parts >>= form

-- what a form comes to, by what its part does
abbrev pub then : {A : Type 0} → Ruled A → (A → Typed) → Typed
then part form = part >>= form

-- the type of an expression, by a type that is looked up
abbrev pub as_type : Ruled ValueType → Typed
as_type ruled = ruled >>= λ kind. Ok (Of kind)

abbrev pub class_by : List Class → Option ℕ → Option Class
class_by cs None = None
class_by cs (Some place) = Some (class_of_place cs place)

-- where code stands, with the class of its body and the type of what it answers
abbrev pub code_at : List Class → Place → CodePlace
code_at cs at = record { class = class_by cs at.class; result = type_at cs at.result }

-- the parent at a place of a body's class
abbrev pub parent_at : Option Class → ℕ → Option ClassKey
parent_at None n = None
parent_at (Some c) n = slice_get c.decl.face.parents n

-- the key of the class at a place
abbrev pub key_of : List Class → Option ℕ → Option ClassKey
key_of cs None = None
key_of cs (Some place) = Some (key_at cs place)

-- whether a class is a proper ancestor of a body's class
abbrev pub is_proper_at : ClassFacts → Option Class → ClassKey → Bool
is_proper_at w None k = false
is_proper_at w (Some c) k = not (same_key k c.key) && w.is_a c.key k

-- a class after those of the kernel
abbrev pub IsDeclared : List Class → ℕ → Type 0
IsDeclared cs place = (4 ≤ place) × (place < length cs)

abbrev pub ClassStands : List Class → Option ℕ → Type 0
ClassStands cs None = Unit {0}
ClassStands cs (Some place) = IsDeclared cs place

-- the class of the body is a declared one, and what it answers is of a type
pub record PlaceStands (cs : List Class) (at : Place) : Type 0 where
  pub class : ClassStands cs at.class
  pub result : IsType cs at.result
