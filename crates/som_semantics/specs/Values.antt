-- Operators, texts, types of values, and host procedures.
use Rattle.std.specs.Prelude.{ℕ, ◌==◌, ◌^◌, ℤ, pos, negsuc, neg_ℤ, int_lt, int_le, int_div, int_rem, ◌+ℤ◌, ◌-ℤ◌, ◌*ℤ◌, Bool, true, false, not, if◌then◌else◌, ◌&&◌, nat_lt, nat_le, List, [], ◌∷◌, ◌++◌, length, get_or, codes, Option, Some, None, Ok, Err}
use Rattle.std.specs.Int.{w32, int_min, int_max, int_bit_and, int_bit_or, int_bit_xor, int_wrapping_add}
use Rattle.std.specs.Fmt.{signed_decimal}
use Rattle.som_model.specs.declared.key.ClassKey.{ClassKey}
use Rattle.som_model.specs.declared.key.ValueType.{ValueType}
use Rattle.som_model.specs.declared.key.ValueType.TheVariants as types
use Rattle.som_model.specs.declared.syntax.HostCode.{HostCode}
use Rattle.som_model.specs.declared.syntax.HostCode.TheVariants as codes_of
use Rattle.som_model.specs.declared.class.Sig.{Sig}
use Rattle.som_model.specs.declared.program.Fault.TheVariants as faults
use Rattle.som_model.specs.declared.limits.TheConstants.{MAX_TEXT}
use Rattle.som_semantics.specs.World.{World}
use Rattle.som_semantics.specs.State.{Value, Long, Boolean, Str, Nil, To, Heap, Tried, class_of, is_live, same_value}

-- a number that is a long
abbrev pub is_long : ℤ → Bool
is_long (pos n) = nat_lt n (2 ^ 31)
is_long (negsuc n) = nat_lt n (2 ^ 31)

-- a long, or the fault Overflow
abbrev pub long : ℤ → Tried Value
long z = if is_long z then Ok (Long z) else Err faults.Overflow

-- whether a number is 0
abbrev is_zero : ℤ → Bool
is_zero (pos n) = n == 0
is_zero (negsuc n) = false

-- a text of at most 65,535 bytes
abbrev pub text : List ℕ → Tried Value
text t = if nat_le (length t) MAX_TEXT then Ok (Str t) else Err faults.TextTooLong

-- the text of a value, as it is printed
abbrev pub text_of : Value → List ℕ
text_of (Long z) = signed_decimal z
text_of (Boolean true) = codes "TRUE"
text_of (Boolean false) = codes "FALSE"
text_of (Str t) = t
text_of _ = []

-- the operators, in the order of their numbers
pub data UnaryOp : Type 0 where
  Minus : UnaryOp
  Not : UnaryOp
  Length : UnaryOp
  TextOf : UnaryOp

pub data BinaryOp : Type 0 where
  Sum : BinaryOp
  Difference : BinaryOp
  Product : BinaryOp
  Quotient : BinaryOp
  Remainder : BinaryOp
  Equal : BinaryOp
  Unequal : BinaryOp
  Below : BinaryOp
  AtMost : BinaryOp
  Above : BinaryOp
  AtLeast : BinaryOp
  And : BinaryOp
  Or : BinaryOp
  Join : BinaryOp

-- the operator of a number
abbrev pub unary_op : ℕ → UnaryOp
unary_op n = get_or (Minus ∷ Not ∷ Length ∷ []) n TextOf

abbrev pub binary_op : ℕ → BinaryOp
binary_op n = get_or (Sum ∷ Difference ∷ Product ∷ Quotient ∷ Remainder ∷ Equal ∷ Unequal ∷ Below ∷ AtMost ∷ Above ∷ AtLeast ∷ And ∷ Or ∷ []) n Join

-- an operator of one operand
abbrev pub unary : UnaryOp → Value → Tried Value
unary Minus (Long z) = long (neg_ℤ z)
unary Not (Boolean b) = Ok (Boolean (not b))
unary Length (Str t) = Ok (Long (pos (length t)))
unary TextOf v = Ok (Str (text_of v))
unary _ v = Ok v

-- an operator on longs
abbrev on_longs : BinaryOp → ℤ → ℤ → Tried Value
on_longs Sum a b = long (a +ℤ b)
on_longs Difference a b = long (a -ℤ b)
on_longs Product a b = long (a *ℤ b)
on_longs Quotient a b = if is_zero b then Err faults.DivideByZero else long (int_div a b)
on_longs Remainder a b = if is_zero b then Err faults.DivideByZero else Ok (Long (int_rem a b))
on_longs Below a b = Ok (Boolean (int_lt a b))
on_longs AtMost a b = Ok (Boolean (int_le a b))
on_longs Above a b = Ok (Boolean (int_lt b a))
on_longs AtLeast a b = Ok (Boolean (int_le b a))
on_longs _ a b = Ok (Long a)

-- a text joined to a text; else the operator is one on longs
abbrev pub binary : BinaryOp → Value → Value → Tried Value
binary Equal a b = Ok (Boolean (same_value a b))
binary Unequal a b = Ok (Boolean (not (same_value a b)))
binary Join (Str a) (Str b) = text (a ++ b)
binary op (Long a) (Long b) = on_longs op a b
binary op a b = Ok a

-- the number of a long
abbrev pub number_of : Value → ℤ
number_of (Long z) = z
number_of _ = pos 0

-- what the host's procedures answer
abbrev pub host_number : HostCode → ℤ → ℤ → ℤ
host_number codes_of.Min a b = int_min a b
host_number codes_of.Max a b = int_max a b
host_number codes_of.And a b = int_bit_and w32 a b
host_number codes_of.Or a b = int_bit_or w32 a b
host_number codes_of.Xor a b = int_bit_xor w32 a b
host_number codes_of.WrapAdd a b = int_wrapping_add w32 a b

-- a host procedure on values
abbrev pub host : HostCode → Value → Value → Value
host code a b = Long (host_number code (number_of a) (number_of b))

-- `as C`: nil stays nil; else the object has to be live and to descend from C
abbrev pub cast : World → ClassKey → Heap → Value → Tried Value
cast w c h (To r) = if is_live h r then (if w.is_a (class_of w h r) c then Ok (To r) else Err faults.Cast) else Err faults.Freed
cast w c h v = Ok v

-- `isa(e, C)`: no for nil; else the object has to be live
abbrev pub isa : World → ClassKey → Heap → Value → Tried Value
isa w c h (To r) = if is_live h r then Ok (Boolean (w.is_a (class_of w h r) c)) else Err faults.Freed
isa w c h v = Ok (Boolean false)

-- whether a value fits a type
abbrev pub fits : World → Heap → ValueType → Value → Bool
fits w h types.Long (Long z) = true
fits w h types.Boolean (Boolean b) = true
fits w h types.Str (Str t) = true
fits w h (types.Class c) Nil = true
fits w h (types.Class c) (To r) = is_live h r && w.is_a (class_of w h r) c
fits w h _ _ = false

-- whether values fit types, one by one, and there are as many
abbrev pub all_fit : World → Heap → List ValueType → List Value → Bool
all_fit w h [] [] = true
all_fit w h (t ∷ ts) (v ∷ vs) = fits w h t v && all_fit w h ts vs
all_fit w h [] (v ∷ vs) = false
all_fit w h (t ∷ ts) [] = false

-- whether a result's type serves where the other is asked for
abbrev pub serves : World → ValueType → ValueType → Bool
serves w types.Void types.Void = true
serves w types.Long types.Long = true
serves w types.Boolean types.Boolean = true
serves w types.Str types.Str = true
serves w (types.Class k) (types.Class c) = w.is_a k c
serves w _ _ = false

-- the test of a call by name: the arguments and the wanted result fit the signature
abbrev pub sig_fits : World → Heap → Option Sig → ValueType → List Value → Tried (Unit {0})
sig_fits w h None wanted args = Err faults.NoMethod
sig_fits w h (Some sig) wanted args = if all_fit w h sig.params args && serves w sig.result wanted then Ok tt else Err faults.BadArguments
