-- Which expressions are operations on others, and which are calls on a receiver, by the outermost part.
use Rattle.std.specs.Prelude.{Bool, true, false}
use Rattle.som_model.specs.declared.syntax.Expr.{Expr, out-Expr}
use Rattle.som_model.specs.declared.syntax.Expr.TheOpen.{Expr-F}

abbrev pub operates : Expr-F Expr → Bool
operates (Expr-F.Unary op e) = true
operates (Expr-F.Binary op a b) = true
operates (Expr-F.Cast k e) = true
operates (Expr-F.Isa k e) = true
operates (Expr-F.Proxy k e) = true
operates (Expr-F.Host code a b) = true
operates _ = false

abbrev pub is_operation : Expr → Bool
is_operation e = operates (out-Expr e)

abbrev pub has_receiver : Expr-F Expr → Bool
has_receiver (Expr-F.OffsetCall r e es) = true
has_receiver (Expr-F.Lookup t name e es) = true
has_receiver (Expr-F.Dispatch t name e es) = true
has_receiver _ = false

abbrev pub is_receiver_call : Expr → Bool
is_receiver_call e = has_receiver (out-Expr e)
