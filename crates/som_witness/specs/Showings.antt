-- How a client shows what a newer interface doesn't keep: the ways, and which of them is taken for a breach.
use Rattle.std.specs.Prelude.{ℕ, suc, ◌==◌, Bool, ◌&&◌, if◌then◌else◌, List, [], ◌∷◌, length, Option, Some, None, slice_get, is_some, unwrap_or}
use Rattle.som_model.specs.declared.key.Module.TheVariants as modules
use Rattle.som_model.specs.declared.key.ClassKey.{ClassKey}
use Rattle.som_model.specs.declared.key.ClassKey.TheVariants as keys
use Rattle.som_model.specs.declared.key.MethodRef.{MethodRef}
use Rattle.som_model.specs.declared.key.ValueType.{ValueType}
use Rattle.som_model.specs.declared.key.ValueType.TheVariants as types
use Rattle.som_model.specs.declared.class.Sig.{Sig}
use Rattle.som_model.specs.declared.program.Interface.{Interface}
use Rattle.som_model.specs.Same.{same_type}
use Rattle.som_model.specs.Class.{Class}
use Rattle.som_model.specs.Classes.{ancestors, class_at, is_a}
use Rattle.som_model.specs.Kernel.{som_class}
use Rattle.som_model.specs.Owner.{introduces}
use Rattle.som_model.specs.Rules.{is_void}
use Rattle.som_model.specs.Compatible.{CompatBreach, release_of, signature}

-- What the client's one class W does, where C is the class that is told and m the method of the name that is told.
-- The types that come first are those of m's old parameters.
pub data Showing : Type 0 where
  -- W descends from C, and no more
  StandsBelow : Showing
  -- W keeps a C in a variable of this class
  KeepsObject : ClassKey → Showing
  -- W overrides m with an empty body
  Overrides : List ValueType → Showing
  -- W calls m on a C, by the slot that C has for it
  CallsSlot : List ValueType → Showing
  -- W calls m on a C with as many values
  Calls : List ValueType → Showing
  -- W calls m on a C with a value of this type at this place
  Passes : List ValueType → ℕ → ValueType → Showing
  -- W overrides m, and keeps the parameter at this place in a variable of this type
  KeepsParameter : List ValueType → ℕ → ValueType → Showing
  -- W overrides m, and returns nothing
  ReturnsNothing : List ValueType → Showing
  -- W overrides m, and returns a variable of this type
  ReturnsVariable : List ValueType → ValueType → Showing
  -- W calls m on a C, and returns what it answers as a value of this type
  ReturnsAnswer : List ValueType → ValueType → Showing
  -- W returns the class object of C as an object of this class
  ReturnsClass : ClassKey → Showing

-- whether a value of the second type fits the first among these classes; a class that isn't among them fits nothing, and nothing fits it
abbrev pub fits_among : List Class → ValueType → ValueType → Bool
fits_among cs (types.Class a) (types.Class k) = is_some (class_at cs a) && (is_some (class_at cs k) && is_a cs k a)
fits_among cs kind t = same_type t kind

-- a place at which two lists have different types, the old one and the new one
pub record Change : Type 0 where
  pub place : ℕ
  pub old_type : ValueType
  pub new_type : ValueType

-- the first change, at a place counted from n
abbrev pub first_change : ℕ → List ValueType → List ValueType → Option Change
first_change n [] ts = None
first_change n (s ∷ ss) [] = None
first_change n (s ∷ ss) (t ∷ ts) = if same_type s t then first_change (suc n) ss ts else Some (record { place = n; old_type = s; new_type = t })

-- the results differ: the old one is void, or the new one fits it, or it doesn't
abbrev pub result_showing : List Class → List ValueType → ValueType → ValueType → Showing
result_showing news params before after = if is_void before then ReturnsNothing params else (if fits_among news before after then ReturnsVariable params before else ReturnsAnswer params before)

-- a parameter differs: its old type fits the new one, or it doesn't
abbrev pub parameter_showing : List Class → List ValueType → Change → Showing
parameter_showing news params d = if fits_among news d.new_type d.old_type then KeepsParameter params d.place d.old_type else Passes params d.place d.old_type

-- the first change among the parameters, if there is one
abbrev pub change_showing : List Class → Sig → Sig → Option Change → Showing
change_showing news s t None = result_showing news s.params s.result t.result
change_showing news s t (Some d) = parameter_showing news s.params d

-- the signatures differ, the old one and the new one: by how many parameters they have, by a parameter, or else by the result
abbrev pub signature_showing : List Class → Sig → Sig → Showing
signature_showing news s t = if length s.params == length t.params then change_showing news s t (first_change 0 s.params t.params) else Calls s.params

abbrev pub changed_showing : List Class → Option Sig → Option Sig → Showing
changed_showing news (Some s) (Some t) = signature_showing news s t
changed_showing news (Some s) None = Calls s.params
changed_showing news None t = Calls []

-- the types of the parameters
abbrev pub params_of : Option Sig → List ValueType
params_of None = []
params_of (Some s) = s.params

-- the metaclass that a class declares
abbrev pub metaclass_in : Option Class → ClassKey
metaclass_in None = som_class
metaclass_in (Some c) = unwrap_or c.decl.face.metaclass som_class

-- the class that is told
abbrev pub told_class : CompatBreach → ClassKey
told_class b = keys.Named modules.Library b.class

-- its method of the name that is told
abbrev pub told_method : CompatBreach → MethodRef
told_method b = record { class = told_class b; name = unwrap_or b.name [] }

-- K4: the class introduces m, or its slot was moved to another class
abbrev pub slot_showing : Bool → List ValueType → Showing
slot_showing own params = if own then Overrides params else CallsSlot params

-- How a breach is shown, by its rule. A breach of K2 isn't shown by any client.
unfoldable pub showing_of : Interface → Interface → CompatBreach → Showing
showing_of old new b =
    let olds = release_of old in
    let c = told_class b in
    let m = told_method b in
    if b.rule == 1 then StandsBelow
    else (if b.rule == 3 then KeepsObject (unwrap_or (slice_get (ancestors olds c) b.place) c)
    else (if b.rule == 4 then slot_showing (introduces olds m.name c) (params_of (signature olds c m.name))
    else (if b.rule == 5 then changed_showing (release_of new) (signature olds c m.name) (signature (release_of new) c m.name)
    else ReturnsClass (metaclass_in (class_at olds c)))))
