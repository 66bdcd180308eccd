-- The types of the values of a run.
use Rattle.std.specs.Prelude.{ℕ, Bool, true, false, ◌&&◌, ◌||◌, nat_lt, List, [], ◌∷◌, Option, Some, None, is_some, slice_get}
use Rattle.som_model.specs.declared.key.ValueType.{ValueType}
use Rattle.som_model.specs.declared.key.ValueType.TheVariants as types
use Rattle.som_model.specs.declared.class.Sig.{Sig}
use Rattle.som_model.specs.Kernel.{som_object}
use Rattle.som_semantics.specs.World.{World}
use Rattle.som_semantics.specs.State.{Value, Long, Boolean, Str, Nil, To, Ref, Object, ClassObject, Manager, Heap, class_of}
use Rattle.som_semantics.specs.Values.{UnaryOp, Minus, Not, Length, TextOf, BinaryOp, Equal, Unequal, And, Or, Join, unary_op, binary_op}

-- whether there is what a reference refers to: an object that was made, the class object of a class, or the class manager object
abbrev pub is_there : World → Heap → Ref → Bool
is_there w h (Object i) = is_some (slice_get h.objects i)
is_there w h (ClassObject k) = w.is_a k som_object
is_there w h Manager = true

-- whether a value is of a type: of a class's type are nil, and the references to objects of this class and of those below it, freed ones too; nil stands where nothing is answered
abbrev pub has_type : World → Heap → ValueType → Value → Bool
has_type w h types.Void Nil = true
has_type w h types.Long (Long z) = true
has_type w h types.Boolean (Boolean b) = true
has_type w h types.Str (Str t) = true
has_type w h (types.Class c) Nil = true
has_type w h (types.Class c) (To r) = is_there w h r && w.is_a (class_of w h r) c
has_type w h _ _ = false

-- whether a value is one at all: what it refers to is there
abbrev pub is_value : World → Heap → Value → Bool
is_value w h (To r) = is_there w h r
is_value w h v = true

-- whether values are of these types, one by one, and there are as many
abbrev pub have_types : World → Heap → List ValueType → List Value → Bool
have_types w h [] [] = true
have_types w h (t ∷ ts) (v ∷ vs) = has_type w h t v && have_types w h ts vs
have_types w h [] (v ∷ vs) = false
have_types w h (t ∷ ts) [] = false

-- whether arguments are of the types of a signature's parameters, and a value of that of its result
abbrev pub are_arguments : World → Heap → Option Sig → List Value → Bool
are_arguments w h None args = false
are_arguments w h (Some sig) args = have_types w h sig.params args

abbrev pub is_result : World → Heap → Option Sig → Value → Bool
is_result w h None v = false
is_result w h (Some sig) v = has_type w h sig.result v

-- ---- kinds of values

abbrev pub is_long : Value → Bool
is_long (Long z) = true
is_long _ = false

abbrev pub is_boolean : Value → Bool
is_boolean (Boolean b) = true
is_boolean _ = false

abbrev pub is_text : Value → Bool
is_text (Str t) = true
is_text _ = false

-- what can be printed
abbrev pub has_text : Value → Bool
has_text v = is_long v || (is_boolean v || is_text v)

-- an object's reference or nil
abbrev pub is_object : Value → Bool
is_object Nil = true
is_object (To r) = true
is_object _ = false

-- whether two values can be compared: two longs, two booleans, two texts, or two references or nil
abbrev pub are_of_one_kind : Value → Value → Bool
are_of_one_kind a b = (is_long a && is_long b) || ((is_boolean a && is_boolean b) || ((is_text a && is_text b) || (is_object a && is_object b)))

-- a reference, which isn't nil
abbrev pub is_reference : Value → Bool
is_reference (To r) = true
is_reference _ = false

-- whether an operator takes a value
abbrev pub takes : UnaryOp → Value → Bool
takes Minus v = is_long v
takes Not v = is_boolean v
takes Length v = is_text v
takes TextOf v = has_text v

-- whether an operator of two operands takes a value for one of them; what is compared is looked at together
abbrev pub takes_both : BinaryOp → Value → Bool
takes_both Equal v = true
takes_both Unequal v = true
takes_both And v = is_boolean v
takes_both Or v = is_boolean v
takes_both Join v = is_text v
takes_both op v = is_long v

-- whether the number is an operator's, and the operator takes the value
abbrev pub unary_takes : ℕ → Value → Bool
unary_takes op v = nat_lt op 4 && takes (unary_op op) v

abbrev pub binary_takes : ℕ → Value → Bool
binary_takes op v = nat_lt op 14 && takes_both (binary_op op) v
