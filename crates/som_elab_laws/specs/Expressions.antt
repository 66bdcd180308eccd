-- What the text of an expression says, form by form. Nothing is said here of types that fit, or of the order in which texts are looked at.
use Rattle.std.specs.Prelude.{◌≡◌, ℕ, Bool, List, [], ◌∷◌, Option, Some}
use Rattle.std.specs.Int.{w32, cast_signed}
use Rattle.som_model.specs.declared.key.ClassKey.{ClassKey}
use Rattle.som_model.specs.declared.key.MethodRef.{MethodRef}
use Rattle.som_model.specs.declared.syntax.HostCode.{HostCode}
use Rattle.som_model.specs.declared.syntax.Expr.{Expr}
use Rattle.som_model.specs.declared.syntax.Expr.TheVariants as exprs
use Rattle.som_model.specs.declared.class.Sig.{Sig}
use Rattle.som_model.specs.declared.class.Way.{Way}
use Rattle.som_model.specs.declared.class.Way.TheVariants as ways
use Rattle.som_model.specs.Class.{Class}
use Rattle.som_model.specs.Typing.{CodePlace}
use Rattle.som_ast.specs.declared.words.TypeName.{TypeName}
use Rattle.som_ast.specs.declared.words.Word.{Word}
use Rattle.som_ast.specs.declared.expression.ExprText.{ExprText}
use Rattle.som_ast.specs.declared.expression.ExprText.TheVariants as texts
use Rattle.som_sema_scope.specs.ClassNames.{result_of}
use Rattle.som_elab_body.specs.Expressions.{Among, class_named}
use Rattle.som_elab_body.specs.Locals.{Names}
use Rattle.som_elab_laws.specs.Named.{HasMethod, IsLocal, IsOf, IsParent, IsVariable}

module _ (a : Among) (at : CodePlace) (scope : Names) where
  mutual
    pub data ExprSays : ExprText → Expr → Type 0 where
      -- numbers, literals, TRUE and FALSE, nil, self and the class manager stand for themselves
      a_number : {n : ℕ} → ExprSays (texts.Number n) (exprs.Long (cast_signed w32 n))
      a_literal : {t : List ℕ} → ExprSays (texts.Literal t) (exprs.Str t)
      a_boolean : {b : Bool} → ExprSays (texts.Boolean b) (exprs.Boolean b)
      plain_nil : ExprSays texts.Nil exprs.Nil
      self : ExprSays texts.Me exprs.Me
      a_manager : ExprSays texts.Manager exprs.Manager
      -- a name is the parameter or local of that name, and `somThis.x` the variable x of the body's class
      a_local : {w : Word} {n : ℕ} → IsLocal scope w.text n → ExprSays (texts.Name w) (exprs.Local n)
      a_variable : {w : Word} {n : ℕ} → IsVariable at w.text n → ExprSays (texts.Variable w) (exprs.Variable n)
      -- operators and host procedures stay, with their operands in their order
      a_unary : {op : ℕ} {e : ExprText} {x : Expr} → ExprSays e x → ExprSays (texts.Unary op e) (exprs.Unary op x)
      a_binary : {op : ℕ} {e f : ExprText} {x y : Expr} → ExprSays e x → ExprSays f y → ExprSays (texts.Binary op e f) (exprs.Binary op x y)
      a_host_call : {code : HostCode} {e f : ExprText} {x y : Expr} → ExprSays e x → ExprSays f y → ExprSays (texts.Host code e f) (exprs.Host code x y)
      -- a class is the one that its name stands for
      a_new : {w : Word} → ExprSays (texts.New w) (exprs.New (class_named a w.text))
      a_class : {w : Word} → ExprSays (texts.Class w) (exprs.Class (class_named a w.text))
      a_cast : {w : Word} {e : ExprText} {x : Expr} → ExprSays e x → ExprSays (texts.Cast w e) (exprs.Cast (class_named a w.text) x)
      an_isa : {w : Word} {e : ExprText} {x : Expr} → ExprSays e x → ExprSays (texts.Isa w e) (exprs.Isa (class_named a w.text) x)
      a_proxy : {w : Word} {e : ExprText} {x : Expr} → ExprSays e x → ExprSays (texts.Proxy w e) (exprs.Proxy (class_named a w.text) x)
      -- a call is of the method that the receiver's class has: by offset, naming the class that introduces it, or by its name with its result where it was declared so
      an_offset_call : {e : ExprText} {w : Word} {es : List ExprText} {x : Expr} {xs : List Expr} {k : ClassKey} {method : MethodRef} {sig : Sig}
          → ExprSays e x → ExprsSay es xs → IsOf a at scope x k → HasMethod a.classes k w.text method sig ways.Offset → ExprSays (texts.Call e w es) (exprs.OffsetCall method x xs)
      a_call_by_name : {e : ExprText} {w : Word} {es : List ExprText} {x : Expr} {xs : List Expr} {k : ClassKey} {method : MethodRef} {sig : Sig}
          → ExprSays e x → ExprsSay es xs → IsOf a at scope x k → HasMethod a.classes k w.text method sig ways.Lookup → ExprSays (texts.Call e w es) (exprs.Lookup sig.result w.text x xs)
      -- `lookup` and `dispatch` keep the name, and the result that they ask for
      a_lookup : {t : Option TypeName} {e : ExprText} {w : Word} {es : List ExprText} {x : Expr} {xs : List Expr}
          → ExprSays e x → ExprsSay es xs → ExprSays (texts.Lookup t e w es) (exprs.Lookup (result_of a.module_of t) w.text x xs)
      a_dispatch : {t : Option TypeName} {e : ExprText} {w : Word} {es : List ExprText} {x : Expr} {xs : List Expr}
          → ExprSays e x → ExprsSay es xs → ExprSays (texts.Dispatch t e w es) (exprs.Dispatch (result_of a.module_of t) w.text x xs)
      -- `parent P` is P's place among the parents and the method that P has; `parents` is the method that the body's class has
      a_parent_call : {p w : Word} {es : List ExprText} {xs : List Expr} {n : ℕ} {method : MethodRef} {sig : Sig} {way : Way}
          → ExprsSay es xs → IsParent at (class_named a p.text) n → HasMethod a.classes (class_named a p.text) w.text method sig way
          → ExprSays (texts.Parent p w es) (exprs.ParentCall n method xs)
      a_parents_call : {w : Word} {es : List ExprText} {xs : List Expr} {c : Class} {method : MethodRef} {sig : Sig} {way : Way}
          → ExprsSay es xs → at.class ≡ Some c → HasMethod a.classes c.key w.text method sig way → ExprSays (texts.Parents w es) (exprs.ParentsCall method xs)

    -- arguments in their order
    pub data ExprsSay : List ExprText → List Expr → Type 0 where
      no_expression : ExprsSay [] []
      one_expression : {e : ExprText} {es : List ExprText} {x : Expr} {xs : List Expr} → ExprSays e x → ExprsSay es xs → ExprsSay (e ∷ es) (x ∷ xs)
