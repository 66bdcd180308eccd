-- Which expressions are calls.
use Rattle.std.specs.Prelude.{Bool, true, false}
use Rattle.som_model.specs.declared.syntax.Expr.{Expr, out-Expr}
use Rattle.som_model.specs.declared.syntax.Expr.TheOpen.{Expr-F}

-- whether an expression's outer form is a call
abbrev pub is_call_form : Expr-F Expr → Bool
is_call_form (Expr-F.OffsetCall r e es) = true
is_call_form (Expr-F.Lookup kind name e es) = true
is_call_form (Expr-F.Dispatch kind name e es) = true
is_call_form (Expr-F.ParentCall n r es) = true
is_call_form (Expr-F.ParentsCall r es) = true
is_call_form _ = false

-- whether an expression is a call
abbrev pub is_call : Expr → Bool
is_call e = is_call_form (out-Expr e)
