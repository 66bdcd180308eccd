-- A text of a group has one of the group's forms.
use Rattle.std.proofs.Common.{◌≡◌, ℕ, true, List, Option, sym, ◌∙◌}
use Rattle.som_model.specs.declared.syntax.HostCode.{HostCode}
use Rattle.som_ast.specs.declared.words.TypeName.{TypeName}
use Rattle.som_ast.specs.declared.words.Word.{Word}
use Rattle.som_ast.specs.declared.expression.ExprText.{ExprText, out-ExprText, roll-ExprText, roll-out-ExprText}
use Rattle.som_ast.specs.declared.expression.ExprText.TheVariants as texts
use Rattle.som_ast.specs.declared.expression.ExprText.TheVariants.{rolls-Unary, rolls-Binary, rolls-Cast, rolls-Isa, rolls-Proxy, rolls-Call, rolls-Lookup, rolls-Dispatch, rolls-Parent, rolls-Parents, rolls-Host}
use Rattle.som_ast.specs.declared.expression.ExprText.TheOpen.{ExprText-F}
use Rattle.som_elab_body.specs.Groups.{class_operation_in, inherited_call_in, is_class_operation, is_inherited_call, is_method_call, is_operation, method_call_in, operation_in}

operation_by : (t : ExprText) (l : ExprText-F ExprText) → t ≡ roll-ExprText l → operation_in l ≡ true
    → ((op : ℕ) (e : ExprText) → t ≡ texts.Unary op e → ⊥) → ((op : ℕ) (e f : ExprText) → t ≡ texts.Binary op e f → ⊥)
    → ((code : HostCode) (e f : ExprText) → t ≡ texts.Host code e f → ⊥) → ⊥
operation_by t (ExprText-F.Unary op e) is in_group f g h = f op e (is ∙ rolls-Unary op e)
operation_by t (ExprText-F.Binary op e e2) is in_group f g h = g op e e2 (is ∙ rolls-Binary op e e2)
operation_by t (ExprText-F.Host code e e2) is in_group f g h = h code e e2 (is ∙ rolls-Host code e e2)
operation_by t _ is in_group f g h = let z = in_group in cc

pub is_some_operation : (t : ExprText) → is_operation t ≡ true
    → ((op : ℕ) (e : ExprText) → t ≡ texts.Unary op e → ⊥) → ((op : ℕ) (e f : ExprText) → t ≡ texts.Binary op e f → ⊥)
    → ((code : HostCode) (e f : ExprText) → t ≡ texts.Host code e f → ⊥) → ⊥
is_some_operation t = operation_by t (out-ExprText t) (sym (roll-out-ExprText t))

class_operation_by : (t : ExprText) (l : ExprText-F ExprText) → t ≡ roll-ExprText l → class_operation_in l ≡ true
    → ((w : Word) (e : ExprText) → t ≡ texts.Cast w e → ⊥) → ((w : Word) (e : ExprText) → t ≡ texts.Isa w e → ⊥)
    → ((w : Word) (e : ExprText) → t ≡ texts.Proxy w e → ⊥) → ⊥
class_operation_by t (ExprText-F.Cast w e) is in_group f g h = f w e (is ∙ rolls-Cast w e)
class_operation_by t (ExprText-F.Isa w e) is in_group f g h = g w e (is ∙ rolls-Isa w e)
class_operation_by t (ExprText-F.Proxy w e) is in_group f g h = h w e (is ∙ rolls-Proxy w e)
class_operation_by t _ is in_group f g h = let z = in_group in cc

pub is_some_class_operation : (t : ExprText) → is_class_operation t ≡ true
    → ((w : Word) (e : ExprText) → t ≡ texts.Cast w e → ⊥) → ((w : Word) (e : ExprText) → t ≡ texts.Isa w e → ⊥)
    → ((w : Word) (e : ExprText) → t ≡ texts.Proxy w e → ⊥) → ⊥
is_some_class_operation t = class_operation_by t (out-ExprText t) (sym (roll-out-ExprText t))

method_call_by : (t : ExprText) (l : ExprText-F ExprText) → t ≡ roll-ExprText l → method_call_in l ≡ true
    → ((e : ExprText) (w : Word) (es : List ExprText) → t ≡ texts.Call e w es → ⊥)
    → ((answer : Option TypeName) (e : ExprText) (w : Word) (es : List ExprText) → t ≡ texts.Lookup answer e w es → ⊥)
    → ((answer : Option TypeName) (e : ExprText) (w : Word) (es : List ExprText) → t ≡ texts.Dispatch answer e w es → ⊥) → ⊥
method_call_by t (ExprText-F.Call e w es) is in_group f g h = f e w es (is ∙ rolls-Call e w es)
method_call_by t (ExprText-F.Lookup answer e w es) is in_group f g h = g answer e w es (is ∙ rolls-Lookup answer e w es)
method_call_by t (ExprText-F.Dispatch answer e w es) is in_group f g h = h answer e w es (is ∙ rolls-Dispatch answer e w es)
method_call_by t _ is in_group f g h = let z = in_group in cc

pub is_some_method_call : (t : ExprText) → is_method_call t ≡ true
    → ((e : ExprText) (w : Word) (es : List ExprText) → t ≡ texts.Call e w es → ⊥)
    → ((answer : Option TypeName) (e : ExprText) (w : Word) (es : List ExprText) → t ≡ texts.Lookup answer e w es → ⊥)
    → ((answer : Option TypeName) (e : ExprText) (w : Word) (es : List ExprText) → t ≡ texts.Dispatch answer e w es → ⊥) → ⊥
is_some_method_call t = method_call_by t (out-ExprText t) (sym (roll-out-ExprText t))

inherited_call_by : (t : ExprText) (l : ExprText-F ExprText) → t ≡ roll-ExprText l → inherited_call_in l ≡ true
    → ((p w : Word) (es : List ExprText) → t ≡ texts.Parent p w es → ⊥) → ((w : Word) (es : List ExprText) → t ≡ texts.Parents w es → ⊥) → ⊥
inherited_call_by t (ExprText-F.Parent p w es) is in_group f g = f p w es (is ∙ rolls-Parent p w es)
inherited_call_by t (ExprText-F.Parents w es) is in_group f g = g w es (is ∙ rolls-Parents w es)
inherited_call_by t _ is in_group f g = let z = in_group in cc

pub is_some_inherited_call : (t : ExprText) → is_inherited_call t ≡ true
    → ((p w : Word) (es : List ExprText) → t ≡ texts.Parent p w es → ⊥) → ((w : Word) (es : List ExprText) → t ≡ texts.Parents w es → ⊥) → ⊥
is_some_inherited_call t = inherited_call_by t (out-ExprText t) (sym (roll-out-ExprText t))
