-- The type of each form, by the types of its parts.
use Rattle.std.proofs.Common.{◌≡◌, ℕ, ℤ, Bool, List, map, Ok, sym, ap, ◌∙◌}
use Rattle.som_model.specs.declared.key.MethodRef.{MethodRef}
use Rattle.som_model.specs.declared.key.ClassKey.{ClassKey}
use Rattle.som_model.specs.declared.key.ValueType.{ValueType}
use Rattle.som_model.specs.declared.key.ValueType.TheVariants as types
use Rattle.som_model.specs.declared.syntax.HostCode.{HostCode}
use Rattle.som_model.specs.Kernel.{som_class_mgr}
use Rattle.som_model.specs.declared.syntax.Expr.{Expr, fold-roll-Expr, roll-Expr}
use Rattle.som_model.specs.declared.syntax.Expr.TheVariants as exprs
use Rattle.som_model.specs.declared.syntax.Expr.TheVariants.{rolls-Long, rolls-Str, rolls-Boolean, rolls-Nil, rolls-Local, rolls-Me, rolls-Variable, rolls-Unary, rolls-Binary, rolls-New, rolls-Class, rolls-Manager, rolls-Cast, rolls-Isa, rolls-Proxy, rolls-Host, rolls-OffsetCall, rolls-Lookup, rolls-Dispatch, rolls-ParentCall, rolls-ParentsCall}
use Rattle.som_model.specs.declared.syntax.Expr.TheOpen.{Expr-F}
use Rattle.som_model.specs.Steps.{◌>>=◌}
use Rattle.som_model.specs.Typing.{ClassFacts, CodePlace, Of, PlainNil, Typed, binary_type, cast_type, class_type, expr_step, expr_type, host_type, isa_type, local_type, named_call_type, new_type, offset_call_type, own_variable, parent_call_type, parents_call_type, proxy_type, self_type, unary_type, value, values}

module _ (w : ClassFacts) (at : CodePlace) (scope : List ValueType) where
  abbrev T : Expr → Typed
  T e = expr_type w at scope e

  by_form : (form : Expr-F Expr) (e : Expr) (typed : Typed) → roll-Expr form ≡ e → T (roll-Expr form) ≡ typed → T e ≡ typed
  by_form form e typed rolls folds = ap T (sym rolls) ∙ folds

  pub long_typed : (z : ℤ) → T (exprs.Long z) ≡ Ok (Of types.Long)
  long_typed z = by_form (Expr-F.Long z) _ _ (rolls-Long z) (fold-roll-Expr Typed (expr_step w at scope) (Expr-F.Long z))

  pub str_typed : (t : List ℕ) → T (exprs.Str t) ≡ Ok (Of types.Str)
  str_typed t = by_form (Expr-F.Str t) _ _ (rolls-Str t) (fold-roll-Expr Typed (expr_step w at scope) (Expr-F.Str t))

  pub boolean_typed : (b : Bool) → T (exprs.Boolean b) ≡ Ok (Of types.Boolean)
  boolean_typed b = by_form (Expr-F.Boolean b) _ _ (rolls-Boolean b) (fold-roll-Expr Typed (expr_step w at scope) (Expr-F.Boolean b))

  pub nil_typed : T exprs.Nil ≡ Ok PlainNil
  nil_typed = by_form Expr-F.Nil _ _ rolls-Nil (fold-roll-Expr Typed (expr_step w at scope) Expr-F.Nil)

  pub local_typed : (n : ℕ) → T (exprs.Local n) ≡ local_type scope n
  local_typed n = by_form (Expr-F.Local n) _ _ (rolls-Local n) (fold-roll-Expr Typed (expr_step w at scope) (Expr-F.Local n))

  pub me_typed : T exprs.Me ≡ self_type at
  me_typed = by_form Expr-F.Me _ _ rolls-Me (fold-roll-Expr Typed (expr_step w at scope) Expr-F.Me)

  pub variable_typed : (n : ℕ) → T (exprs.Variable n) ≡ (own_variable at n >>= λ kind. Ok (Of kind))
  variable_typed n = by_form (Expr-F.Variable n) _ _ (rolls-Variable n) (fold-roll-Expr Typed (expr_step w at scope) (Expr-F.Variable n))

  pub unary_typed : (op : ℕ) (e : Expr) → T (exprs.Unary op e) ≡ (value (T e) >>= unary_type op)
  unary_typed op e = by_form (Expr-F.Unary op e) _ _ (rolls-Unary op e) (fold-roll-Expr Typed (expr_step w at scope) (Expr-F.Unary op e))

  pub binary_typed : (op : ℕ) (a b : Expr) → T (exprs.Binary op a b) ≡ (value (T a) >>= λ s. value (T b) >>= binary_type op s)
  binary_typed op a b = by_form (Expr-F.Binary op a b) _ _ (rolls-Binary op a b) (fold-roll-Expr Typed (expr_step w at scope) (Expr-F.Binary op a b))

  pub new_typed : (k : ClassKey) → T (exprs.New k) ≡ new_type w k
  new_typed k = by_form (Expr-F.New k) _ _ (rolls-New k) (fold-roll-Expr Typed (expr_step w at scope) (Expr-F.New k))

  pub class_typed : (k : ClassKey) → T (exprs.Class k) ≡ class_type w k
  class_typed k = by_form (Expr-F.Class k) _ _ (rolls-Class k) (fold-roll-Expr Typed (expr_step w at scope) (Expr-F.Class k))

  pub manager_typed : T exprs.Manager ≡ Ok (Of (types.Class som_class_mgr))
  manager_typed = by_form Expr-F.Manager _ _ rolls-Manager (fold-roll-Expr Typed (expr_step w at scope) Expr-F.Manager)

  pub cast_typed : (k : ClassKey) (e : Expr) → T (exprs.Cast k e) ≡ (value (T e) >>= cast_type w k)
  cast_typed k e = by_form (Expr-F.Cast k e) _ _ (rolls-Cast k e) (fold-roll-Expr Typed (expr_step w at scope) (Expr-F.Cast k e))

  pub isa_typed : (k : ClassKey) (e : Expr) → T (exprs.Isa k e) ≡ (value (T e) >>= isa_type w k)
  isa_typed k e = by_form (Expr-F.Isa k e) _ _ (rolls-Isa k e) (fold-roll-Expr Typed (expr_step w at scope) (Expr-F.Isa k e))

  pub proxy_typed : (k : ClassKey) (e : Expr) → T (exprs.Proxy k e) ≡ (value (T e) >>= proxy_type w k)
  proxy_typed k e = by_form (Expr-F.Proxy k e) _ _ (rolls-Proxy k e) (fold-roll-Expr Typed (expr_step w at scope) (Expr-F.Proxy k e))

  pub host_typed : (code : HostCode) (a b : Expr) → T (exprs.Host code a b) ≡ (value (T a) >>= λ s. value (T b) >>= host_type s)
  host_typed code a b = by_form (Expr-F.Host code a b) _ _ (rolls-Host code a b) (fold-roll-Expr Typed (expr_step w at scope) (Expr-F.Host code a b))

  pub offset_call_typed : (r : MethodRef) (e : Expr) (es : List Expr) → T (exprs.OffsetCall r e es) ≡ (value (T e) >>= λ on. values (map T es) >>= offset_call_type w r on)
  offset_call_typed r e es = ap T (sym (rolls-OffsetCall r e es)) ∙ fold-roll-Expr Typed (expr_step w at scope) (Expr-F.OffsetCall r e es)

  pub lookup_typed : (kind : ValueType) (name : List ℕ) (e : Expr) (es : List Expr) → T (exprs.Lookup kind name e es) ≡ (value (T e) >>= λ on. values (map T es) >>= named_call_type w kind on)
  lookup_typed kind name e es = ap T (sym (rolls-Lookup kind name e es)) ∙ fold-roll-Expr Typed (expr_step w at scope) (Expr-F.Lookup kind name e es)

  pub dispatch_typed : (kind : ValueType) (name : List ℕ) (e : Expr) (es : List Expr) → T (exprs.Dispatch kind name e es) ≡ (value (T e) >>= λ on. values (map T es) >>= named_call_type w kind on)
  dispatch_typed kind name e es = ap T (sym (rolls-Dispatch kind name e es)) ∙ fold-roll-Expr Typed (expr_step w at scope) (Expr-F.Dispatch kind name e es)

  pub parent_call_typed : (n : ℕ) (r : MethodRef) (es : List Expr) → T (exprs.ParentCall n r es) ≡ (values (map T es) >>= parent_call_type w at n r)
  parent_call_typed n r es = ap T (sym (rolls-ParentCall n r es)) ∙ fold-roll-Expr Typed (expr_step w at scope) (Expr-F.ParentCall n r es)

  pub parents_call_typed : (r : MethodRef) (es : List Expr) → T (exprs.ParentsCall r es) ≡ (values (map T es) >>= parents_call_type w at r)
  parents_call_typed r es = ap T (sym (rolls-ParentsCall r es)) ∙ fold-roll-Expr Typed (expr_step w at scope) (Expr-F.ParentsCall r es)
