-- The operators of the meaning, as the code names them.
use Rattle.som_semantics.specs.Values.{UnaryOp, BinaryOp}
use Rattle.som_semantics.specs.Values as ops
use Rattle.som_values.specs.declared.operator.Binary.{Binary}
use Rattle.som_values.specs.declared.operator.Binary.TheVariants as binaries
use Rattle.som_values.specs.declared.operator.Unary.{Unary}
use Rattle.som_values.specs.declared.operator.Unary.TheVariants as unaries

-- an operator of one operand
abbrev pub unary_of : Unary → UnaryOp
unary_of unaries.Minus = ops.Minus
unary_of unaries.Not = ops.Not
unary_of unaries.Length = ops.Length
unary_of unaries.TextOf = ops.TextOf

-- an operator of two operands
abbrev pub binary_of : Binary → BinaryOp
binary_of binaries.Sum = ops.Sum
binary_of binaries.Difference = ops.Difference
binary_of binaries.Product = ops.Product
binary_of binaries.Quotient = ops.Quotient
binary_of binaries.Remainder = ops.Remainder
binary_of binaries.Equal = ops.Equal
binary_of binaries.Unequal = ops.Unequal
binary_of binaries.Below = ops.Below
binary_of binaries.AtMost = ops.AtMost
binary_of binaries.Above = ops.Above
binary_of binaries.AtLeast = ops.AtLeast
binary_of binaries.And = ops.And
binary_of binaries.Or = ops.Or
binary_of binaries.Join = ops.Join

-- an operator that has an answer for two numbers alone
abbrev pub IsOnNumbers : Binary → Type 0
IsOnNumbers binaries.Equal = ⊥
IsOnNumbers binaries.Unequal = ⊥
IsOnNumbers binaries.Join = ⊥
IsOnNumbers _ = Unit {0}
