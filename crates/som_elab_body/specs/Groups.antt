-- The groups of forms that the text of an expression may have.
use Rattle.std.specs.Prelude.{Bool, true, false}
use Rattle.som_ast.specs.declared.expression.ExprText.{ExprText, out-ExprText}
use Rattle.som_ast.specs.declared.expression.ExprText.TheOpen.{ExprText-F}

abbrev pub operation_in : ExprText-F ExprText → Bool
operation_in (ExprText-F.Unary op e) = true
operation_in (ExprText-F.Binary op e f) = true
operation_in (ExprText-F.Host code e f) = true
operation_in _ = false

-- an operator or a host's function, on one part or two
abbrev pub is_operation : ExprText → Bool
is_operation e = operation_in (out-ExprText e)

abbrev pub class_operation_in : ExprText-F ExprText → Bool
class_operation_in (ExprText-F.Cast word e) = true
class_operation_in (ExprText-F.Isa word e) = true
class_operation_in (ExprText-F.Proxy word e) = true
class_operation_in _ = false

-- what is asked of one part and a class
abbrev pub is_class_operation : ExprText → Bool
is_class_operation e = class_operation_in (out-ExprText e)

abbrev pub method_call_in : ExprText-F ExprText → Bool
method_call_in (ExprText-F.Call e word es) = true
method_call_in (ExprText-F.Lookup answer e word es) = true
method_call_in (ExprText-F.Dispatch answer e word es) = true
method_call_in _ = false

-- a call on a receiver
abbrev pub is_method_call : ExprText → Bool
is_method_call e = method_call_in (out-ExprText e)

abbrev pub inherited_call_in : ExprText-F ExprText → Bool
inherited_call_in (ExprText-F.Parent parent word es) = true
inherited_call_in (ExprText-F.Parents word es) = true
inherited_call_in _ = false

-- a call of what a parent has, or all parents have
abbrev pub is_inherited_call : ExprText → Bool
is_inherited_call e = inherited_call_in (out-ExprText e)
