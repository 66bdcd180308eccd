-- The named expression that a text of one stands for, and the lowest rule that its first wrong construct breaks: parts come before the whole, in the order of the text.
use Rattle.std.specs.Prelude.{ℕ, not, List, [], ◌∷◌, map, Option, Ok}
use Rattle.std.specs.Int.{w32, cast_signed}
use Rattle.som_model.specs.declared.key.Module.{Module}
use Rattle.som_model.specs.declared.key.ClassKey.{ClassKey}
use Rattle.som_model.specs.declared.key.ValueType.TheVariants as types
use Rattle.som_model.specs.declared.syntax.HostCode.{HostCode}
use Rattle.som_model.specs.declared.syntax.Expr.{Expr}
use Rattle.som_model.specs.declared.syntax.Expr.TheVariants as exprs
use Rattle.som_model.specs.declared.class.Way.{Way}
use Rattle.som_model.specs.declared.class.Way.TheVariants as ways
use Rattle.som_model.specs.Class.{Class}
use Rattle.som_model.specs.Kernel.{som_class_mgr}
use Rattle.som_model.specs.Steps.{◌>>=◌}
use Rattle.som_model.specs.Typing.{ClassFacts, CodePlace, ExprType, Of, PlainNil, Ruled, Typed, class_facts, needs, there, is_nothing, all_fit, local_type, own_variable, self_type, unary_type, binary_type, host_type, new_type, class_type, cast_type, isa_type, proxy_type, offset_call_type, named_call_type, parent_call_type, parents_call_type}
use Rattle.som_ast.specs.declared.words.TypeName.{TypeName}
use Rattle.som_ast.specs.declared.expression.ExprText.{ExprText, fold-ExprText}
use Rattle.som_ast.specs.declared.expression.ExprText.TheOpen.{ExprText-F}
use Rattle.som_sema_scope.specs.ClassNames.{key_of, result_of}
use Rattle.som_elab_body.specs.Locals.{Names, kinds_of, local_of}
use Rattle.som_elab_body.specs.Methods.{Method, method_of, method_for, own_method, variable_place, parent_place}

-- what the texts of bodies are elaborated among: all classes, and the module of the class that a name stands for
pub record Among : Type 0 where
  pub classes : List Class
  pub module_of : List ℕ → Module

-- what typing asks of these classes
abbrev pub facts_among : Among → ClassFacts
facts_among a = class_facts a.classes

-- the class that a word names
abbrev pub class_named : Among → List ℕ → ClassKey
class_named a name = key_of a.module_of name

-- an expression with its type
pub record Elaborated : Type 0 where
  pub expr : Expr
  pub type : ExprType

abbrev pub exprs_of : List Elaborated → List Expr
exprs_of ps = map (λ (p : Elaborated). p.expr) ps

abbrev pub types_of : List Elaborated → List ExprType
types_of ps = map (λ (p : Elaborated). p.type) ps

-- what a text of an expression comes to
abbrev pub Elab : Type 0
Elab = Ruled Elaborated

-- an expression with the type that its form has
abbrev pub formed : Expr → Typed → Elab
formed e type = type >>= λ t. Ok (record { expr = e; type = t })

-- a part has a value, since a void expression stands only as a call statement
abbrev pub valued : Elaborated → Elab
valued p = needs 20 (not (is_nothing p.type)) (Ok p)

abbrev pub part : Elab → Elab
part e = e >>= valued

-- the parts in their order
abbrev pub parts : List Elab → Ruled (List Elaborated)
parts [] = Ok []
parts (e ∷ es) = part e >>= λ p. parts es >>= λ ps. Ok (p ∷ ps)

-- ---- forms, by what their parts come to

-- a parameter or local
abbrev pub local_form : Names → List ℕ → Elab
local_form scope name = there 16 (local_of scope name) >>= λ n. formed (exprs.Local n) (local_type (kinds_of scope) n)

-- a variable of self
abbrev pub variable_form : CodePlace → List ℕ → Elab
variable_form at name = there 16 (variable_place at.class name) >>= λ n. formed (exprs.Variable n) (own_variable at n >>= λ kind. Ok (Of kind))

abbrev pub unary_form : ℕ → Elaborated → Elab
unary_form op p = formed (exprs.Unary op p.expr) (unary_type op p.type)

abbrev pub binary_form : ℕ → Elaborated → Elaborated → Elab
binary_form op p q = formed (exprs.Binary op p.expr q.expr) (binary_type op p.type q.type)

abbrev pub host_form : HostCode → Elaborated → Elaborated → Elab
host_form code p q = formed (exprs.Host code p.expr q.expr) (host_type p.type q.type)

abbrev pub new_form : Among → List ℕ → Elab
new_form a name = formed (exprs.New (class_named a name)) (new_type (facts_among a) (class_named a name))

abbrev pub class_form : Among → List ℕ → Elab
class_form a name = formed (exprs.Class (class_named a name)) (class_type (facts_among a) (class_named a name))

abbrev pub cast_form : Among → List ℕ → Elaborated → Elab
cast_form a name p = formed (exprs.Cast (class_named a name) p.expr) (cast_type (facts_among a) (class_named a name) p.type)

abbrev pub isa_form : Among → List ℕ → Elaborated → Elab
isa_form a name p = formed (exprs.Isa (class_named a name) p.expr) (isa_type (facts_among a) (class_named a name) p.type)

abbrev pub proxy_form : Among → List ℕ → Elaborated → Elab
proxy_form a name p = formed (exprs.Proxy (class_named a name) p.expr) (proxy_type (facts_among a) (class_named a name) p.type)

-- a call of a method by its offset, or by its name where it was declared so; the arguments fit its signature either way
abbrev pub called_by : ClassFacts → Elaborated → List Elaborated → Method → Way → Elab
called_by w on args m ways.Offset = formed (exprs.OffsetCall m.ref on.expr (exprs_of args)) (offset_call_type w m.ref on.type (types_of args))
called_by w on args m ways.Lookup =
    needs 18 (all_fit w m.sig.params (types_of args))
    (formed (exprs.Lookup m.sig.result m.ref.name on.expr (exprs_of args)) (named_call_type w m.sig.result on.type (types_of args)))

-- a call of the method that the object has
abbrev pub call_form : Among → Elaborated → List ℕ → List Elaborated → Elab
call_form a on name args = there 16 (method_for a.classes on.type name) >>= λ m. called_by (facts_among a) on args m m.way

-- a call by name, which asks for its result alone
abbrev pub lookup_form : Among → Option TypeName → Elaborated → List ℕ → List Elaborated → Elab
lookup_form a answer on name args =
    formed (exprs.Lookup (result_of a.module_of answer) name on.expr (exprs_of args)) (named_call_type (facts_among a) (result_of a.module_of answer) on.type (types_of args))

-- a call by dispatch, which asks for its result alone
abbrev pub dispatch_form : Among → Option TypeName → Elaborated → List ℕ → List Elaborated → Elab
dispatch_form a answer on name args =
    formed (exprs.Dispatch (result_of a.module_of answer) name on.expr (exprs_of args)) (named_call_type (facts_among a) (result_of a.module_of answer) on.type (types_of args))

-- a call of the method that a parent of the body's class has
abbrev pub parent_form : Among → CodePlace → List ℕ → List ℕ → List Elaborated → Elab
parent_form a at parent name args =
    there 16 (parent_place at.class (class_named a parent)) >>= λ n.
    there 16 (method_of a.classes (class_named a parent) name) >>= λ m.
    formed (exprs.ParentCall n m.ref (exprs_of args)) (parent_call_type (facts_among a) at n m.ref (types_of args))

-- a call of the method that all parents have
abbrev pub parents_form : Among → CodePlace → List ℕ → List Elaborated → Elab
parents_form a at name args =
    there 16 (own_method a.classes at.class name) >>= λ m.
    formed (exprs.ParentsCall m.ref (exprs_of args)) (parents_call_type (facts_among a) at m.ref (types_of args))

-- an expression, by what its parts come to
abbrev pub expr_step : Among → CodePlace → Names → ExprText-F Elab → Elab
expr_step a at scope (ExprText-F.Number n) = formed (exprs.Long (cast_signed w32 n)) (Ok (Of types.Long))
expr_step a at scope (ExprText-F.Literal t) = formed (exprs.Str t) (Ok (Of types.Str))
expr_step a at scope (ExprText-F.Boolean b) = formed (exprs.Boolean b) (Ok (Of types.Boolean))
expr_step a at scope ExprText-F.Nil = formed exprs.Nil (Ok PlainNil)
expr_step a at scope (ExprText-F.Name word) = local_form scope word.text
expr_step a at scope ExprText-F.Me = formed exprs.Me (self_type at)
expr_step a at scope (ExprText-F.Variable word) = variable_form at word.text
expr_step a at scope (ExprText-F.Unary op e) = part e >>= unary_form op
expr_step a at scope (ExprText-F.Binary op e f) = part e >>= λ p. part f >>= binary_form op p
expr_step a at scope (ExprText-F.New word) = new_form a word.text
expr_step a at scope (ExprText-F.Class word) = class_form a word.text
expr_step a at scope ExprText-F.Manager = formed exprs.Manager (Ok (Of (types.Class som_class_mgr)))
expr_step a at scope (ExprText-F.Cast word e) = part e >>= cast_form a word.text
expr_step a at scope (ExprText-F.Isa word e) = part e >>= isa_form a word.text
expr_step a at scope (ExprText-F.Proxy word e) = part e >>= proxy_form a word.text
expr_step a at scope (ExprText-F.Call e word es) = part e >>= λ on. parts es >>= call_form a on word.text
expr_step a at scope (ExprText-F.Lookup answer e word es) = part e >>= λ on. parts es >>= lookup_form a answer on word.text
expr_step a at scope (ExprText-F.Dispatch answer e word es) = part e >>= λ on. parts es >>= dispatch_form a answer on word.text
expr_step a at scope (ExprText-F.Parent parent word es) = parts es >>= parent_form a at parent.text word.text
expr_step a at scope (ExprText-F.Parents word es) = parts es >>= parents_form a at word.text
expr_step a at scope (ExprText-F.Host code e f) = part e >>= λ p. part f >>= host_form code p

-- what a text of an expression comes to, void included
abbrev pub elaborated : Among → CodePlace → Names → ExprText → Elab
elaborated a at scope = fold-ExprText Elab (expr_step a at scope)

-- what the text of an expression that has to have a value comes to
abbrev pub elaborated_value : Among → CodePlace → Names → ExprText → Elab
elaborated_value a at scope e = part (elaborated a at scope e)
