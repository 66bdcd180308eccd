-- W's bodies are well typed where what they ask of the classes is so.
use Rattle.std.proofs.Common.{◌≡◌, ℕ, zero, suc, inl, inr, true, false, not, ◌&&◌, List, [], ◌∷◌, ◌++◌, map, slice_get, Option, Some, None, Ok, refl, sym, ap, ◌∙◌, subst, true≢false}
use Rattle.std.specs.Prelude.{codes, pos}
use Rattle.som_model.specs.declared.key.Module.TheVariants as modules
use Rattle.som_model.specs.declared.key.MethodRef.{MethodRef}
use Rattle.som_model.specs.declared.key.ValueType.{ValueType}
use Rattle.som_model.specs.declared.key.ValueType.TheVariants as types
use Rattle.som_model.specs.declared.syntax.Expr.{Expr, fold-roll-Expr, out-Expr, out-roll-Expr}
use Rattle.som_model.specs.declared.syntax.Expr.TheOpen.{Expr-F}
use Rattle.som_model.specs.declared.syntax.Expr.TheVariants as exprs
use Rattle.som_model.specs.declared.syntax.Stmt.{Stmt}
use Rattle.som_model.specs.declared.syntax.Stmt.TheVariants as stmts
use Rattle.som_model.specs.declared.class.Sig.{Sig}
use Rattle.som_model.specs.declared.class.Override.{Override}
use Rattle.som_model.specs.declared.class.Variable.{Variable}
use Rattle.som_model.specs.Lists.{Mem}
use Rattle.som_model.specs.Steps.{◌>>=◌}
use Rattle.som_model.specs.Blocks.{is_call, is_call_form}
use Rattle.som_model.specs.Class.{Class, class_in}
use Rattle.som_model.specs.Owner.{owner, sig_of}
use Rattle.som_model.specs.Rules.{is_void}
use Rattle.som_model.specs.Typing.{ClassFacts, CodePlace, ExprType, Of, PlainNil, Ruled, Typed, all_fit, descends_to, expr_step, expr_type, fits, in_body, in_main, is_nothing, needs, offset_call_type, own_variable, there as asked, value, value_of, values}
use Rattle.som_model.specs.TypedBlocks.{Scope, Scoped, block_scope, in_turn, stmt_scope, value_return, variable_set}
use Rattle.som_model.specs.Conforming.{body_breach, class_typed_by, main_breach, main_typed_by, override_breach_by}
use Rattle.som_model.proofs.StepLaws.{both_steps, met}
use Rattle.som_model.proofs.TypingLaws.{block_typed}
use Rattle.som_release_laws.proofs.Lists.{both_true}
use Rattle.som_witness.specs.Program.{call_on_c, with_g, with_override, zero_value, zero_values, zero_values_with}
use Rattle.som_witness.proofs.Forms.{answer_typed, call_stmt_typed, call_typed, one_typed, return_typed, set_typed}

-- ---- the types of zero values

abbrev pub zero_type : ValueType → ExprType
zero_type types.Void = PlainNil
zero_type types.Long = Of types.Long
zero_type types.Boolean = Of types.Boolean
zero_type types.Str = Of types.Str
zero_type (types.Class k) = PlainNil

abbrev pub zero_types : List ValueType → List ExprType
zero_types ps = map zero_type ps

-- zero values with a value of a parameter's own type at its place
abbrev pub zero_types_with : ℕ → ValueType → List ValueType → List ExprType
zero_types_with n t [] = []
zero_types_with zero t (p ∷ ps) = Of t ∷ zero_types ps
zero_types_with (suc n) t (p ∷ ps) = zero_type p ∷ zero_types_with n t ps

-- parameters, none of which is void
abbrev pub AreValues : List ValueType → Type 0
AreValues ps = (p : ValueType) → Mem p ps → is_void p ≡ false

abbrev with_first : ExprType → List ExprType → Ruled (List ExprType)
with_first t ts = Ok (t ∷ ts)

pub value_some : (t : ValueType) → is_void t ≡ false → value_of (Of t) ≡ Ok (Of t)
value_some types.Void e = absurd (true≢false e)
value_some types.Long e = refl
value_some types.Boolean e = refl
value_some types.Str e = refl
value_some (types.Class k) e = refl

-- ---- classes

one_done : (w : ClassFacts) (at : CodePlace) (s : Stmt) (scope next : Scope) → stmt_scope w at s scope ≡ Ok next → block_scope w at (record { statements = s ∷ [] }) scope ≡ Ok next
one_done w at s scope next e = one_typed w at s scope ∙ ap (λ z. z >>= in_turn []) e

none_done : (w : ClassFacts) (at : CodePlace) (scope : Scope) → block_scope w at (record { statements = [] }) scope ≡ Ok scope
none_done w at scope = ap (λ (f : Scoped). f scope) (block_typed w at [])

-- a class whose method g has one statement
pub g_done : (w : ClassFacts) (cs : List Class) (name : List ℕ) (sig : Sig) (vs : List Variable) (s : Stmt) (next : Scope) → stmt_scope w (in_body (class_in modules.Client (with_g name sig vs (s ∷ []))) sig.result) s sig.params ≡ Ok next
    → class_typed_by w cs (class_in modules.Client (with_g name sig vs (s ∷ []))) ≡ []
g_done w cs name sig vs s next e =
    let c = class_in modules.Client (with_g name sig vs (s ∷ [])) in
    ap (λ (z : Ruled Scope). (body_breach c (codes "g") z ++ []) ++ []) (one_done w (in_body c sig.result) s sig.params next e)

-- a class whose override has one statement
pub override_done : (w : ClassFacts) (cs : List Class) (name : List ℕ) (m : MethodRef) (vs : List Variable) (s : Stmt) (sig : Sig) (next : Scope) → sig_of cs (owner cs m) ≡ Some sig
    → stmt_scope w (in_body (class_in modules.Client (with_override name m vs (s ∷ []))) sig.result) s sig.params ≡ Ok next → class_typed_by w cs (class_in modules.Client (with_override name m vs (s ∷ []))) ≡ []
override_done w cs name m vs s sig next is e =
    let c = class_in modules.Client (with_override name m vs (s ∷ [])) in
    let o : Override = record { method = m; block = record { statements = s ∷ [] } } in
    ap (λ (z : Option Sig). override_breach_by w c o z ++ []) is ∙ ap (λ (z : Ruled Scope). body_breach c m.name z ++ []) (one_done w (in_body c sig.result) s sig.params next e)

-- a class whose override has no statement
pub empty_done : (w : ClassFacts) (cs : List Class) (name : List ℕ) (m : MethodRef) (vs : List Variable) → class_typed_by w cs (class_in modules.Client (with_override name m vs [])) ≡ []
empty_done w cs name m vs = by (sig_of cs (owner cs m)) refl
  where
    by : (o : Option Sig) → sig_of cs (owner cs m) ≡ o → class_typed_by w cs (class_in modules.Client (with_override name m vs [])) ≡ []
    by None e = ap (λ (z : Option Sig). override_breach_by w (class_in modules.Client (with_override name m vs [])) (record { method = m; block = record { statements = [] } }) z ++ []) e
    by (Some s) e =
        let c = class_in modules.Client (with_override name m vs []) in
        let o : Override = record { method = m; block = record { statements = [] } } in
        ap (λ (z : Option Sig). override_breach_by w c o z ++ []) e ∙ ap (λ (z : Ruled Scope). body_breach c m.name z ++ []) (none_done w (in_body c s.result) s.params)

-- an empty main
pub main_done : (w : ClassFacts) → main_typed_by w (record { statements = [] }) ≡ []
main_done w = ap main_breach (none_done w in_main [])

-- ---- statements

module _ (w : ClassFacts) (at : CodePlace) (scope : Scope) where
  abbrev E : Expr → Typed
  E = expr_type w at scope

  pub set_done : (e : Expr) (t : ExprType) (kind : ValueType) → E e ≡ Ok t → value_of t ≡ Ok t → own_variable at 0 ≡ Ok kind → fits w kind t ≡ true → stmt_scope w at (stmts.SetVariable 0 e) scope ≡ Ok scope
  set_done e t kind typed some own fit =
      set_typed w at 0 e scope ∙ ap (λ (z : Typed). value z >>= variable_set w at scope 0) typed ∙ ap (λ (z : Typed). z >>= variable_set w at scope 0) some
      ∙ ap (λ (z : Ruled ValueType). z >>= λ kind. needs 17 (fits w kind t) (Ok scope)) own ∙ met 17 (fits w kind t) (Ok scope) fit

  pub answer_done : (e : Expr) (t : ExprType) → E e ≡ Ok t → value_of t ≡ Ok t → is_nothing (Of at.result) ≡ false → fits w at.result t ≡ true → stmt_scope w at (stmts.ReturnValue e) scope ≡ Ok scope
  answer_done e t typed some result fit =
      answer_typed w at e scope ∙ ap (λ (z : Typed). value z >>= value_return w at scope) typed ∙ ap (λ (z : Typed). z >>= value_return w at scope) some
      ∙ met 19 (not (is_nothing (Of at.result)) && fits w at.result t) (Ok scope) (both_true (not (is_nothing (Of at.result))) (fits w at.result t) (ap not result) fit)

  pub return_done : is_nothing (Of at.result) ≡ true → stmt_scope w at stmts.Return scope ≡ Ok scope
  return_done nothing = return_typed w at scope ∙ met 19 (is_nothing (Of at.result)) (Ok scope) nothing

  call_form : (m : MethodRef) (es : List Expr) → is_call (call_on_c m es) ≡ true
  call_form m es = ap is_call_form (ap out-Expr (sym (exprs.rolls-OffsetCall m (exprs.Local 0) es)) ∙ out-roll-Expr (Expr-F.OffsetCall m (exprs.Local 0) es))

  pub call_done : (m : MethodRef) (es : List Expr) (t : ExprType) → E (call_on_c m es) ≡ Ok t → stmt_scope w at (stmts.Call (call_on_c m es)) scope ≡ Ok scope
  call_done m es t typed =
      call_stmt_typed w at (call_on_c m es) scope ∙ ap (λ (z : Typed). z >>= λ t. needs 20 (is_call (call_on_c m es)) (Ok scope)) typed ∙ met 20 (is_call (call_on_c m es)) (Ok scope) (call_form m es)

  -- ---- zero values

  nil_typed : E exprs.Nil ≡ Ok PlainNil
  nil_typed = ap E (sym exprs.rolls-Nil) ∙ fold-roll-Expr Typed (expr_step w at scope) Expr-F.Nil

  zero_typed : (p : ValueType) → value (E (zero_value p)) ≡ Ok (zero_type p)
  zero_typed types.Void = ap value nil_typed
  zero_typed types.Long = ap value (ap E (sym (exprs.rolls-Long (pos 0))) ∙ fold-roll-Expr Typed (expr_step w at scope) (Expr-F.Long (pos 0)))
  zero_typed types.Boolean = ap value (ap E (sym (exprs.rolls-Boolean false)) ∙ fold-roll-Expr Typed (expr_step w at scope) (Expr-F.Boolean false))
  zero_typed types.Str = ap value (ap E (sym (exprs.rolls-Str [])) ∙ fold-roll-Expr Typed (expr_step w at scope) (Expr-F.Str []))
  zero_typed (types.Class k) = ap value nil_typed

  pub zeros_typed : (ps : List ValueType) → values (map E (zero_values ps)) ≡ Ok (zero_types ps)
  zeros_typed [] = refl
  zeros_typed (p ∷ ps) = both_steps (value (E (zero_value p))) (values (map E (zero_values ps))) with_first (zero_type p) (zero_types ps) (zero_typed p) (zeros_typed ps)

  zero_fits : (p : ValueType) → is_void p ≡ false → fits w p (zero_type p) ≡ true
  zero_fits types.Void e = absurd (true≢false e)
  zero_fits types.Long e = refl
  zero_fits types.Boolean e = refl
  zero_fits types.Str e = refl
  zero_fits (types.Class k) e = refl

  pub zeros_fit : (ps : List ValueType) → AreValues ps → all_fit w ps (zero_types ps) ≡ true
  zeros_fit [] f = refl
  zeros_fit (p ∷ ps) f = both_true (fits w p (zero_type p)) (all_fit w ps (zero_types ps)) (zero_fits p (f p (inl refl))) (zeros_fit ps (λ q m. f q (inr m)))

  pub passing_typed : (t : ValueType) → value (E (exprs.Local 1)) ≡ Ok (Of t) → (j : ℕ) (ps : List ValueType) → values (map E (zero_values_with j ps)) ≡ Ok (zero_types_with j t ps)
  passing_typed t x zero [] = refl
  passing_typed t x (suc j) [] = refl
  passing_typed t x zero (p ∷ ps) = both_steps (value (E (exprs.Local 1))) (values (map E (zero_values ps))) with_first (Of t) (zero_types ps) x (zeros_typed ps)
  passing_typed t x (suc j) (p ∷ ps) = both_steps (value (E (zero_value p))) (values (map E (zero_values_with j ps))) with_first (zero_type p) (zero_types_with j t ps) (zero_typed p) (passing_typed t x j ps)

  pub passing_fits : (t : ValueType) → fits w t (Of t) ≡ true → (j : ℕ) (ps : List ValueType) → AreValues ps → slice_get ps j ≡ Some t → all_fit w ps (zero_types_with j t ps) ≡ true
  passing_fits t own j [] f at_j = absurd (cc)
  passing_fits t own zero (p ∷ ps) f at_j =
      let same : p ≡ t = cc in
      both_true (fits w p (Of t)) (all_fit w ps (zero_types ps)) (subst (λ z. fits w z (Of t) ≡ true) (sym same) own) (zeros_fit ps (λ q m. f q (inr m)))
  passing_fits t own (suc j) (p ∷ ps) f at_j =
      both_true (fits w p (zero_type p)) (all_fit w ps (zero_types_with j t ps)) (zero_fits p (f p (inl refl))) (passing_fits t own j ps (λ q m. f q (inr m)) at_j)

  -- a call on the first parameter, whose type descends from the method's class
  pub called : (m : MethodRef) (es : List Expr) (ts : List ExprType) (sig : Sig) (t : ExprType) → E (exprs.Local 0) ≡ Ok t → value_of t ≡ Ok t → values (map E es) ≡ Ok ts → w.signature m ≡ Some sig → descends_to w m.class t ≡ true → all_fit w sig.params ts ≡ true
      → E (call_on_c m es) ≡ Ok (Of sig.result)
  called m es ts sig t on some args is below fit =
      call_typed w at scope m (exprs.Local 0) es
      ∙ both_steps (value (E (exprs.Local 0))) (values (map E es)) (offset_call_type w m) t ts (ap value on ∙ some) args
      ∙ ap (λ (o : Option Sig). asked 16 o >>= λ sig. needs 17 (descends_to w m.class t) (needs 18 (all_fit w sig.params ts) (Ok (Of sig.result)))) is
      ∙ met 17 (descends_to w m.class t) (needs 18 (all_fit w sig.params ts) (Ok (Of sig.result))) below
      ∙ met 18 (all_fit w sig.params ts) (Ok (Of sig.result)) fit
