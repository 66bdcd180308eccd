-- The text of an expression says one expression.
use Rattle.std.proofs.Common.{◌≡◌, ℕ, ◌⊎◌, inl, inr, Bool, List, [], ◌∷◌, Option, Some, refl, sym, ap, ◌∙◌, subst}
use Rattle.std.specs.Int.{w32, cast_signed}
use Rattle.som_model.specs.declared.key.ClassKey.{ClassKey}
use Rattle.som_model.specs.declared.key.MethodRef.{MethodRef}
use Rattle.som_model.specs.declared.key.ValueType.{ValueType}
use Rattle.som_model.specs.declared.class.Sig.{Sig}
use Rattle.som_model.specs.declared.class.Way.{Way}
use Rattle.som_model.specs.declared.class.Way.TheVariants as ways
use Rattle.som_model.specs.declared.syntax.Expr.{Expr}
use Rattle.som_model.specs.declared.syntax.Expr.TheVariants as exprs
use Rattle.som_model.specs.Class.{Class}
use Rattle.som_model.specs.Typing.{CodePlace}
use Rattle.som_ast.specs.declared.words.TypeName.{TypeName}
use Rattle.som_ast.specs.declared.words.Word.{Word}
use Rattle.som_ast.specs.declared.expression.ExprText.{ExprText, out-ExprText, roll-ExprText, out-roll-ExprText}
use Rattle.som_ast.specs.declared.expression.ExprText.TheOpen.{ExprText-F}
use Rattle.som_ast.specs.declared.expression.ExprText.TheVariants as texts
use Rattle.som_sema_scope.specs.ClassNames.{result_of}
use Rattle.som_elab_body.specs.Expressions.{Among, class_named}
use Rattle.som_elab_body.specs.Locals.{Names}
use Rattle.som_elab_laws.specs.Expressions.{ExprSays, ExprsSay, a_number, a_literal, a_boolean, plain_nil, self, a_manager, a_local, a_variable, a_unary, a_binary, a_host_call, a_new, a_class, a_cast, an_isa, a_proxy, an_offset_call, a_call_by_name, a_lookup, a_dispatch, a_parent_call, a_parents_call, no_expression, one_expression}
use Rattle.som_elab_laws.specs.Named.{HasMethod, IsLocal, IsOf, IsParent, IsVariable}
use Rattle.som_elab_program_laws.specs.NothingTwice.{NothingTwice}
use Rattle.som_elab_program_laws.proofs.OneName.{one_class, one_local, one_method, one_own, one_own_variable, one_parent}

ways_apart : ways.Offset ≡ ways.Lookup → ⊥
ways_apart e = let z = e in cc

module _ (a : Among) (at : CodePlace) (scope : Names) where
  -- an operand
  record IsOne (e : ExprText) (form : Expr → Expr) (y : Expr) : Type 0 where
    part : Expr
    says : ExprSays a at scope e part
    is : y ≡ form part

  -- two operands
  record IsBoth (e f : ExprText) (form : Expr → Expr → Expr) (y : Expr) : Type 0 where
    left : Expr
    right : Expr
    says_left : ExprSays a at scope e left
    says_right : ExprSays a at scope f right
    is : y ≡ form left right

  -- a receiver and arguments
  record IsCalled (e : ExprText) (es : List ExprText) (form : Expr → List Expr → Expr) (y : Expr) : Type 0 where
    on : Expr
    args : List Expr
    says_on : ExprSays a at scope e on
    say_args : ExprsSay a at scope es args
    is : y ≡ form on args

  -- a call of a method that the receiver's class has
  data IsCall (e : ExprText) (w : Word) (es : List ExprText) (y : Expr) : Type 0 where
    by_offset : (x : Expr) (xs : List Expr) (k : ClassKey) (method : MethodRef) (sig : Sig) → ExprSays a at scope e x → ExprsSay a at scope es xs → IsOf a at scope x k
        → HasMethod a.classes k w.text method sig ways.Offset → y ≡ exprs.OffsetCall method x xs → IsCall e w es y
    by_name : (x : Expr) (xs : List Expr) (k : ClassKey) (method : MethodRef) (sig : Sig) → ExprSays a at scope e x → ExprsSay a at scope es xs → IsOf a at scope x k
        → HasMethod a.classes k w.text method sig ways.Lookup → y ≡ exprs.Lookup sig.result w.text x xs → IsCall e w es y

  record IsParentCall (p w : Word) (es : List ExprText) (y : Expr) : Type 0 where
    args : List Expr
    place : ℕ
    method : MethodRef
    sig : Sig
    way : Way
    say_args : ExprsSay a at scope es args
    parent : IsParent at (class_named a p.text) place
    has : HasMethod a.classes (class_named a p.text) w.text method sig way
    is : y ≡ exprs.ParentCall place method args

  record IsParentsCall (w : Word) (es : List ExprText) (y : Expr) : Type 0 where
    args : List Expr
    class : Class
    method : MethodRef
    sig : Sig
    way : Way
    say_args : ExprsSay a at scope es args
    own : at.class ≡ Some class
    has : HasMethod a.classes class.key w.text method sig way
    is : y ≡ exprs.ParentsCall method args

  -- what the text of a form says
  abbrev FormSays : ExprText-F ExprText → Expr → Type 0
  FormSays (ExprText-F.Number n) y = y ≡ exprs.Long (cast_signed w32 n)
  FormSays (ExprText-F.Literal t) y = y ≡ exprs.Str t
  FormSays (ExprText-F.Boolean b) y = y ≡ exprs.Boolean b
  FormSays ExprText-F.Nil y = y ≡ exprs.Nil
  FormSays (ExprText-F.Name w) y = (n : ℕ) × IsLocal scope w.text n × (y ≡ exprs.Local n)
  FormSays ExprText-F.Me y = y ≡ exprs.Me
  FormSays (ExprText-F.Variable w) y = (n : ℕ) × IsVariable at w.text n × (y ≡ exprs.Variable n)
  FormSays (ExprText-F.Unary op e) y = IsOne e (exprs.Unary op) y
  FormSays (ExprText-F.Binary op e f) y = IsBoth e f (exprs.Binary op) y
  FormSays (ExprText-F.New w) y = y ≡ exprs.New (class_named a w.text)
  FormSays (ExprText-F.Class w) y = y ≡ exprs.Class (class_named a w.text)
  FormSays ExprText-F.Manager y = y ≡ exprs.Manager
  FormSays (ExprText-F.Cast w e) y = IsOne e (exprs.Cast (class_named a w.text)) y
  FormSays (ExprText-F.Isa w e) y = IsOne e (exprs.Isa (class_named a w.text)) y
  FormSays (ExprText-F.Proxy w e) y = IsOne e (exprs.Proxy (class_named a w.text)) y
  FormSays (ExprText-F.Call e w es) y = IsCall e w es y
  FormSays (ExprText-F.Lookup t e w es) y = IsCalled e es (exprs.Lookup (result_of a.module_of t) w.text) y
  FormSays (ExprText-F.Dispatch t e w es) y = IsCalled e es (exprs.Dispatch (result_of a.module_of t) w.text) y
  FormSays (ExprText-F.Parent p w es) y = IsParentCall p w es y
  FormSays (ExprText-F.Parents w es) y = IsParentsCall w es y
  FormSays (ExprText-F.Host code e f) y = IsBoth e f (exprs.Host code) y

  opened : (t : ExprText) (layer : ExprText-F ExprText) → roll-ExprText layer ≡ t → out-ExprText t ≡ layer
  opened t layer rolls = ap out-ExprText (sym rolls) ∙ out-roll-ExprText layer

  stated : (t : ExprText) (layer : ExprText-F ExprText) (y : Expr) → roll-ExprText layer ≡ t → FormSays layer y → FormSays (out-ExprText t) y
  stated t layer y rolls s = subst (λ (z : ExprText-F ExprText). FormSays z y) (sym (opened t layer rolls)) s

  form_says : (t : ExprText) (y : Expr) → ExprSays a at scope t y → FormSays (out-ExprText t) y
  form_says t y (a_number {n = n}) = stated (texts.Number n) (ExprText-F.Number n) (exprs.Long (cast_signed w32 n)) (texts.rolls-Number n) refl
  form_says t y (a_literal {t = b}) = stated (texts.Literal b) (ExprText-F.Literal b) (exprs.Str b) (texts.rolls-Literal b) refl
  form_says t y (a_boolean {b = b}) = stated (texts.Boolean b) (ExprText-F.Boolean b) (exprs.Boolean b) (texts.rolls-Boolean b) refl
  form_says t y plain_nil = stated texts.Nil ExprText-F.Nil exprs.Nil texts.rolls-Nil refl
  form_says t y self = stated texts.Me ExprText-F.Me exprs.Me texts.rolls-Me refl
  form_says t y a_manager = stated texts.Manager ExprText-F.Manager exprs.Manager texts.rolls-Manager refl
  form_says t y (a_local {w = w} {n = n} is) = stated (texts.Name w) (ExprText-F.Name w) (exprs.Local n) (texts.rolls-Name w) (n, is, refl)
  form_says t y (a_variable {w = w} {n = n} is) = stated (texts.Variable w) (ExprText-F.Variable w) (exprs.Variable n) (texts.rolls-Variable w) (n, is, refl)
  form_says t y (a_unary {op = op} {e = e} {x = x} p) = stated (texts.Unary op e) (ExprText-F.Unary op e) (exprs.Unary op x) (texts.rolls-Unary op e) (record { part = x; says = p; is = refl })
  form_says t y (a_binary {op = op} {e = e} {f = f} {x = u} {y = v} p q) =
      stated (texts.Binary op e f) (ExprText-F.Binary op e f) (exprs.Binary op u v) (texts.rolls-Binary op e f) (record { left = u; right = v; says_left = p; says_right = q; is = refl })
  form_says t y (a_host_call {code = code} {e = e} {f = f} {x = u} {y = v} p q) =
      stated (texts.Host code e f) (ExprText-F.Host code e f) (exprs.Host code u v) (texts.rolls-Host code e f) (record { left = u; right = v; says_left = p; says_right = q; is = refl })
  form_says t y (a_new {w = w}) = stated (texts.New w) (ExprText-F.New w) (exprs.New (class_named a w.text)) (texts.rolls-New w) refl
  form_says t y (a_class {w = w}) = stated (texts.Class w) (ExprText-F.Class w) (exprs.Class (class_named a w.text)) (texts.rolls-Class w) refl
  form_says t y (a_cast {w = w} {e = e} {x = x} p) = stated (texts.Cast w e) (ExprText-F.Cast w e) (exprs.Cast (class_named a w.text) x) (texts.rolls-Cast w e) (record { part = x; says = p; is = refl })
  form_says t y (an_isa {w = w} {e = e} {x = x} p) = stated (texts.Isa w e) (ExprText-F.Isa w e) (exprs.Isa (class_named a w.text) x) (texts.rolls-Isa w e) (record { part = x; says = p; is = refl })
  form_says t y (a_proxy {w = w} {e = e} {x = x} p) = stated (texts.Proxy w e) (ExprText-F.Proxy w e) (exprs.Proxy (class_named a w.text) x) (texts.rolls-Proxy w e) (record { part = x; says = p; is = refl })
  form_says t y (an_offset_call {e = e} {w = w} {es = es} {x = x} {xs = xs} {k = k} {method = method} {sig = sig} p ps of has) =
      stated (texts.Call e w es) (ExprText-F.Call e w es) (exprs.OffsetCall method x xs) (texts.rolls-Call e w es) (by_offset x xs k method sig p ps of has refl)
  form_says t y (a_call_by_name {e = e} {w = w} {es = es} {x = x} {xs = xs} {k = k} {method = method} {sig = sig} p ps of has) =
      stated (texts.Call e w es) (ExprText-F.Call e w es) (exprs.Lookup sig.result w.text x xs) (texts.rolls-Call e w es) (by_name x xs k method sig p ps of has refl)
  form_says t y (a_lookup {t = r} {e = e} {w = w} {es = es} {x = x} {xs = xs} p ps) =
      stated (texts.Lookup r e w es) (ExprText-F.Lookup r e w es) (exprs.Lookup (result_of a.module_of r) w.text x xs) (texts.rolls-Lookup r e w es) (record { on = x; args = xs; says_on = p; say_args = ps; is = refl })
  form_says t y (a_dispatch {t = r} {e = e} {w = w} {es = es} {x = x} {xs = xs} p ps) =
      stated (texts.Dispatch r e w es) (ExprText-F.Dispatch r e w es) (exprs.Dispatch (result_of a.module_of r) w.text x xs) (texts.rolls-Dispatch r e w es) (record { on = x; args = xs; says_on = p; say_args = ps; is = refl })
  form_says t y (a_parent_call {p = p} {w = w} {es = es} {xs = xs} {n = n} {method = method} {sig = sig} {way = way} ps is has) =
      stated (texts.Parent p w es) (ExprText-F.Parent p w es) (exprs.ParentCall n method xs) (texts.rolls-Parent p w es)
      (record { args = xs; place = n; method = method; sig = sig; way = way; say_args = ps; parent = is; has = has; is = refl })
  form_says t y (a_parents_call {w = w} {es = es} {xs = xs} {c = c} {method = method} {sig = sig} {way = way} ps own has) =
      stated (texts.Parents w es) (ExprText-F.Parents w es) (exprs.ParentsCall method xs) (texts.rolls-Parents w es)
      (record { args = xs; class = c; method = method; sig = sig; way = way; say_args = ps; own = own; has = has; is = refl })

  -- what a text of a known form says
  of_form : (t : ExprText) (layer : ExprText-F ExprText) (y : Expr) → roll-ExprText layer ≡ t → ExprSays a at scope t y → FormSays layer y
  of_form t layer y rolls q = subst (λ (z : ExprText-F ExprText). FormSays z y) (opened t layer rolls) (form_says t y q)

  -- an operand is one where it says one
  abbrev One : ExprText → Expr → Type 0
  One e x = (y : Expr) → ExprSays a at scope e y → x ≡ y

  abbrev OneList : List ExprText → List Expr → Type 0
  OneList es xs = (ys : List Expr) → ExprsSay a at scope es ys → xs ≡ ys

  same_one : (e : ExprText) (x : Expr) (form : Expr → Expr) (y : Expr) → One e x → IsOne e form y → form x ≡ y
  same_one e x form y one s = ap form (one s.part s.says) ∙ sym s.is

  same_both : (e f : ExprText) (x z : Expr) (form : Expr → Expr → Expr) (y : Expr) → One e x → One f z → IsBoth e f form y → form x z ≡ y
  same_both e f x z form y one two s = ap (λ u. form u z) (one s.left s.says_left) ∙ ap (form s.left) (two s.right s.says_right) ∙ sym s.is

  same_called : (e : ExprText) (es : List ExprText) (x : Expr) (xs : List Expr) (form : Expr → List Expr → Expr) (y : Expr) → One e x → OneList es xs → IsCalled e es form y → form x xs ≡ y
  same_called e es x xs form y one all s = ap (λ u. form u xs) (one s.on s.says_on) ∙ ap (form s.on) (all s.args s.say_args) ∙ sym s.is

  module _ (once : NothingTwice at scope) where
    same_offset : (e : ExprText) (w : Word) (es : List ExprText) (x : Expr) (xs : List Expr) (k : ClassKey) (method : MethodRef) (sig : Sig) (y : Expr) → One e x → OneList es xs → IsOf a at scope x k
        → HasMethod a.classes k w.text method sig ways.Offset → IsCall e w es y → exprs.OffsetCall method x xs ≡ y
    same_offset e w es x xs k method sig y one all of has (by_offset z zs l other s p ps is had same) =
        let here = one z p in
        let classes = one_class a at scope z k l (subst (λ u. IsOf a at scope u k) here of) is in
        let methods = one_method a.classes l w.text method other sig s ways.Offset ways.Offset (subst (λ u. HasMethod a.classes u w.text method sig ways.Offset) classes has) had in
        ap (λ u. exprs.OffsetCall u x xs) methods.method ∙ ap (λ u. exprs.OffsetCall other u xs) here ∙ ap (exprs.OffsetCall other z) (all zs ps) ∙ sym same
    same_offset e w es x xs k method sig y one all of has (by_name z zs l other s p ps is had same) =
        let here = one z p in
        let classes = one_class a at scope z k l (subst (λ u. IsOf a at scope u k) here of) is in
        let methods = one_method a.classes l w.text method other sig s ways.Offset ways.Lookup (subst (λ u. HasMethod a.classes u w.text method sig ways.Offset) classes has) had in
        absurd (ways_apart methods.way)

    same_named : (e : ExprText) (w : Word) (es : List ExprText) (x : Expr) (xs : List Expr) (k : ClassKey) (method : MethodRef) (sig : Sig) (y : Expr) → One e x → OneList es xs → IsOf a at scope x k
        → HasMethod a.classes k w.text method sig ways.Lookup → IsCall e w es y → exprs.Lookup sig.result w.text x xs ≡ y
    same_named e w es x xs k method sig y one all of has (by_name z zs l other s p ps is had same) =
        let here = one z p in
        let classes = one_class a at scope z k l (subst (λ u. IsOf a at scope u k) here of) is in
        let methods = one_method a.classes l w.text method other sig s ways.Lookup ways.Lookup (subst (λ u. HasMethod a.classes u w.text method sig ways.Lookup) classes has) had in
        ap (λ (u : Sig). exprs.Lookup u.result w.text x xs) methods.sig ∙ ap (λ u. exprs.Lookup s.result w.text u xs) here ∙ ap (exprs.Lookup s.result w.text z) (all zs ps) ∙ sym same
    same_named e w es x xs k method sig y one all of has (by_offset z zs l other s p ps is had same) =
        let here = one z p in
        let classes = one_class a at scope z k l (subst (λ u. IsOf a at scope u k) here of) is in
        let methods = one_method a.classes l w.text method other sig s ways.Lookup ways.Offset (subst (λ u. HasMethod a.classes u w.text method sig ways.Lookup) classes has) had in
        absurd (ways_apart (sym methods.way))

    same_parent : (p w : Word) (es : List ExprText) (xs : List Expr) (n : ℕ) (method : MethodRef) (sig : Sig) (way : Way) (y : Expr) → OneList es xs → IsParent at (class_named a p.text) n
        → HasMethod a.classes (class_named a p.text) w.text method sig way → IsParentCall p w es y → exprs.ParentCall n method xs ≡ y
    same_parent p w es xs n method sig way y all is has s =
        let places = one_parent at scope once (class_named a p.text) n s.place is s.parent in
        let methods = one_method a.classes (class_named a p.text) w.text method s.method sig s.sig way s.way has s.has in
        ap (λ u. exprs.ParentCall u method xs) places ∙ ap (λ u. exprs.ParentCall s.place u xs) methods.method ∙ ap (exprs.ParentCall s.place s.method) (all s.args s.say_args) ∙ sym s.is

    same_parents : (w : Word) (es : List ExprText) (xs : List Expr) (c : Class) (method : MethodRef) (sig : Sig) (way : Way) (y : Expr) → OneList es xs → at.class ≡ Some c
        → HasMethod a.classes c.key w.text method sig way → IsParentsCall w es y → exprs.ParentsCall method xs ≡ y
    same_parents w es xs c method sig way y all own has s =
        let class = one_own at scope once c s.class own s.own in
        let methods = one_method a.classes s.class.key w.text method s.method sig s.sig way s.way (subst (λ (u : Class). HasMethod a.classes u.key w.text method sig way) class has) s.has in
        ap (λ u. exprs.ParentsCall u xs) methods.method ∙ ap (exprs.ParentsCall s.method) (all s.args s.say_args) ∙ sym s.is

    mutual
      pub one_expr : (t : ExprText) (x y : Expr) → ExprSays a at scope t x → ExprSays a at scope t y → x ≡ y
      one_expr t x y (a_number {n = n}) q = sym (of_form (texts.Number n) (ExprText-F.Number n) y (texts.rolls-Number n) q)
      one_expr t x y (a_literal {t = b}) q = sym (of_form (texts.Literal b) (ExprText-F.Literal b) y (texts.rolls-Literal b) q)
      one_expr t x y (a_boolean {b = b}) q = sym (of_form (texts.Boolean b) (ExprText-F.Boolean b) y (texts.rolls-Boolean b) q)
      one_expr t x y plain_nil q = sym (of_form texts.Nil ExprText-F.Nil y texts.rolls-Nil q)
      one_expr t x y self q = sym (of_form texts.Me ExprText-F.Me y texts.rolls-Me q)
      one_expr t x y a_manager q = sym (of_form texts.Manager ExprText-F.Manager y texts.rolls-Manager q)
      one_expr t x y (a_local {w = w} {n = n} is) q = let s = of_form (texts.Name w) (ExprText-F.Name w) y (texts.rolls-Name w) q in ap exprs.Local (one_local at scope once w.text n s.0 is s.1) ∙ sym s.2
      one_expr t x y (a_variable {w = w} {n = n} is) q =
          let s = of_form (texts.Variable w) (ExprText-F.Variable w) y (texts.rolls-Variable w) q in ap exprs.Variable (one_own_variable at scope once w.text n s.0 is s.1) ∙ sym s.2
      one_expr t x y (a_unary {op = op} {e = e} {x = u} p) q = same_one e u (exprs.Unary op) y (λ z r. one_expr e u z p r) (of_form (texts.Unary op e) (ExprText-F.Unary op e) y (texts.rolls-Unary op e) q)
      one_expr t x y (a_binary {op = op} {e = e} {f = f} {x = u} {y = v} p r) q =
          same_both e f u v (exprs.Binary op) y (λ z s. one_expr e u z p s) (λ z s. one_expr f v z r s) (of_form (texts.Binary op e f) (ExprText-F.Binary op e f) y (texts.rolls-Binary op e f) q)
      one_expr t x y (a_host_call {code = code} {e = e} {f = f} {x = u} {y = v} p r) q =
          same_both e f u v (exprs.Host code) y (λ z s. one_expr e u z p s) (λ z s. one_expr f v z r s) (of_form (texts.Host code e f) (ExprText-F.Host code e f) y (texts.rolls-Host code e f) q)
      one_expr t x y (a_new {w = w}) q = sym (of_form (texts.New w) (ExprText-F.New w) y (texts.rolls-New w) q)
      one_expr t x y (a_class {w = w}) q = sym (of_form (texts.Class w) (ExprText-F.Class w) y (texts.rolls-Class w) q)
      one_expr t x y (a_cast {w = w} {e = e} {x = u} p) q = same_one e u (exprs.Cast (class_named a w.text)) y (λ z r. one_expr e u z p r) (of_form (texts.Cast w e) (ExprText-F.Cast w e) y (texts.rolls-Cast w e) q)
      one_expr t x y (an_isa {w = w} {e = e} {x = u} p) q = same_one e u (exprs.Isa (class_named a w.text)) y (λ z r. one_expr e u z p r) (of_form (texts.Isa w e) (ExprText-F.Isa w e) y (texts.rolls-Isa w e) q)
      one_expr t x y (a_proxy {w = w} {e = e} {x = u} p) q = same_one e u (exprs.Proxy (class_named a w.text)) y (λ z r. one_expr e u z p r) (of_form (texts.Proxy w e) (ExprText-F.Proxy w e) y (texts.rolls-Proxy w e) q)
      one_expr t x y (an_offset_call {e = e} {w = w} {es = es} {x = u} {xs = us} {k = k} {method = method} {sig = sig} p ps of has) q =
          same_offset e w es u us k method sig y (λ z r. one_expr e u z p r) (λ zs r. one_exprs es us zs ps r) of has (of_form (texts.Call e w es) (ExprText-F.Call e w es) y (texts.rolls-Call e w es) q)
      one_expr t x y (a_call_by_name {e = e} {w = w} {es = es} {x = u} {xs = us} {k = k} {method = method} {sig = sig} p ps of has) q =
          same_named e w es u us k method sig y (λ z r. one_expr e u z p r) (λ zs r. one_exprs es us zs ps r) of has (of_form (texts.Call e w es) (ExprText-F.Call e w es) y (texts.rolls-Call e w es) q)
      one_expr t x y (a_lookup {t = r} {e = e} {w = w} {es = es} {x = u} {xs = us} p ps) q =
          same_called e es u us (exprs.Lookup (result_of a.module_of r) w.text) y (λ z s. one_expr e u z p s) (λ zs s. one_exprs es us zs ps s) (of_form (texts.Lookup r e w es) (ExprText-F.Lookup r e w es) y (texts.rolls-Lookup r e w es) q)
      one_expr t x y (a_dispatch {t = r} {e = e} {w = w} {es = es} {x = u} {xs = us} p ps) q =
          same_called e es u us (exprs.Dispatch (result_of a.module_of r) w.text) y (λ z s. one_expr e u z p s) (λ zs s. one_exprs es us zs ps s) (of_form (texts.Dispatch r e w es) (ExprText-F.Dispatch r e w es) y (texts.rolls-Dispatch r e w es) q)
      one_expr t x y (a_parent_call {p = p} {w = w} {es = es} {xs = us} {n = n} {method = method} {sig = sig} {way = way} ps is has) q =
          same_parent p w es us n method sig way y (λ zs r. one_exprs es us zs ps r) is has (of_form (texts.Parent p w es) (ExprText-F.Parent p w es) y (texts.rolls-Parent p w es) q)
      one_expr t x y (a_parents_call {w = w} {es = es} {xs = us} {c = c} {method = method} {sig = sig} {way = way} ps own has) q =
          same_parents w es us c method sig way y (λ zs r. one_exprs es us zs ps r) own has (of_form (texts.Parents w es) (ExprText-F.Parents w es) y (texts.rolls-Parents w es) q)

      one_exprs : (ts : List ExprText) (xs ys : List Expr) → ExprsSay a at scope ts xs → ExprsSay a at scope ts ys → xs ≡ ys
      one_exprs ts xs ys no_expression no_expression = refl
      one_exprs ts xs ys (one_expression {e = e} {es = es} {x = u} {xs = us} p ps) (one_expression {x = v} {xs = vs} q qs) =
          ap (λ z. z ∷ us) (one_expr e u v p q) ∙ ap (λ z. v ∷ z) (one_exprs es us vs ps qs)
