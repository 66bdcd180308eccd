-- What the forms that W's bodies are made of name, and how they are typed.
use Rattle.std.proofs.Common.{◌≡◌, ℕ, Bool, true, not, List, [], ◌∷◌, ◌++◌, map, Ok, Err, refl, sym, ap, ◌∙◌}
use Rattle.som_model.specs.declared.key.ClassKey.{ClassKey}
use Rattle.som_model.specs.declared.key.MethodRef.{MethodRef}
use Rattle.som_model.specs.declared.key.ValueType.{ValueType}
use Rattle.som_model.specs.declared.syntax.Expr.{Expr, fold-roll-Expr}
use Rattle.som_model.specs.declared.syntax.Expr.TheOpen.{Expr-F}
use Rattle.som_model.specs.declared.syntax.Expr.TheVariants as exprs
use Rattle.som_model.specs.declared.syntax.Stmt.{Stmt, fold-roll-Stmt}
use Rattle.som_model.specs.declared.syntax.Stmt.TheOpen.{Stmt-F}
use Rattle.som_model.specs.declared.syntax.Stmt.TheVariants as stmts
use Rattle.som_model.specs.declared.syntax.Block.{fold-roll-Block}
use Rattle.som_model.specs.Lists.{joined}
use Rattle.som_model.specs.Steps.{◌>>=◌}
use Rattle.som_model.specs.Class.{Class}
use Rattle.som_model.specs.Named.{Named, AClass, AMethod, block_names, block_names_step, expr_names, expr_names_step, method_names, stmt_names, stmt_names_step}
use Rattle.som_model.specs.Typing.{ClassFacts, CodePlace, ExprType, Of, Ruled, Typed, class_type, expr_step, expr_type, is_nothing, local_type, offset_call_type, own_variable, value, value_of, values}
use Rattle.som_model.specs.TypedBlocks.{Scope, Scoped, block_scope, block_step, call_statement, in_turn, plain_return, stmt_scope, stmt_step, value_return, variable_set}
use Rattle.som_model.specs.Conforming.{body_breach}
use Rattle.som_model.proofs.StepLaws.{went, held}
use Rattle.som_model.proofs.TypingLaws.{block_typed}

-- ---- what they name

block_named : (ss : List Stmt) → block_names (record { statements = ss }) ≡ joined (map stmt_names ss)
block_named ss = fold-roll-Block (List Named) (List Named) stmt_names_step block_names_step (record { statements = ss })

call_stmt_named : (e : Expr) → stmt_names (stmts.Call e) ≡ expr_names e
call_stmt_named e = ap stmt_names (sym (stmts.rolls-Call e)) ∙ fold-roll-Stmt (List Named) (List Named) stmt_names_step block_names_step (Stmt-F.Call e)

call_named : (r : MethodRef) (e : Expr) (es : List Expr) → expr_names (exprs.OffsetCall r e es) ≡ method_names r ++ (expr_names e ++ joined (map expr_names es))
call_named r e es = ap expr_names (sym (exprs.rolls-OffsetCall r e es)) ∙ fold-roll-Expr (List Named) expr_names_step (Expr-F.OffsetCall r e es)

-- a block with a call alone names its method
pub call_names : (r : MethodRef) (e : Expr) (es : List Expr) → block_names (record { statements = stmts.Call (exprs.OffsetCall r e es) ∷ [] }) ≡ (AClass r.class ∷ AMethod r ∷ (expr_names e ++ joined (map expr_names es))) ++ []
call_names r e es = block_named (stmts.Call (exprs.OffsetCall r e es) ∷ []) ∙ ap (λ (z : List Named). z ++ []) (call_stmt_named (exprs.OffsetCall r e es) ∙ call_named r e es)

-- ---- how they are typed

module _ (w : ClassFacts) (at : CodePlace) (scope : List ValueType) where
  abbrev E : Expr → Typed
  E = expr_type w at scope

  pub local_typed : (n : ℕ) → E (exprs.Local n) ≡ local_type scope n
  local_typed n = ap E (sym (exprs.rolls-Local n)) ∙ fold-roll-Expr Typed (expr_step w at scope) (Expr-F.Local n)

  pub variable_typed : (n : ℕ) → E (exprs.Variable n) ≡ (own_variable at n >>= λ kind. Ok (Of kind))
  variable_typed n = ap E (sym (exprs.rolls-Variable n)) ∙ fold-roll-Expr Typed (expr_step w at scope) (Expr-F.Variable n)

  pub class_typed : (k : ClassKey) → E (exprs.Class k) ≡ class_type w k
  class_typed k = ap E (sym (exprs.rolls-Class k)) ∙ fold-roll-Expr Typed (expr_step w at scope) (Expr-F.Class k)

  pub call_typed : (r : MethodRef) (e : Expr) (es : List Expr) → E (exprs.OffsetCall r e es) ≡ (value (E e) >>= λ on. values (map E es) >>= offset_call_type w r on)
  call_typed r e es = ap E (sym (exprs.rolls-OffsetCall r e es)) ∙ fold-roll-Expr Typed (expr_step w at scope) (Expr-F.OffsetCall r e es)

module _ (w : ClassFacts) (at : CodePlace) where
  abbrev S : Stmt → Scoped
  S = stmt_scope w at

  pub set_typed : (n : ℕ) (e : Expr) (scope : Scope) → S (stmts.SetVariable n e) scope ≡ (value (expr_type w at scope e) >>= variable_set w at scope n)
  set_typed n e scope = ap (λ z. S z scope) (sym (stmts.rolls-SetVariable n e)) ∙ ap (λ (f : Scoped). f scope) (fold-roll-Stmt Scoped Scoped (stmt_step w at) block_step (Stmt-F.SetVariable n e))

  pub call_stmt_typed : (e : Expr) (scope : Scope) → S (stmts.Call e) scope ≡ call_statement w at scope e
  call_stmt_typed e scope = ap (λ z. S z scope) (sym (stmts.rolls-Call e)) ∙ ap (λ (f : Scoped). f scope) (fold-roll-Stmt Scoped Scoped (stmt_step w at) block_step (Stmt-F.Call e))

  pub return_typed : (scope : Scope) → S stmts.Return scope ≡ plain_return at scope
  return_typed scope = ap (λ z. S z scope) (sym stmts.rolls-Return) ∙ ap (λ (f : Scoped). f scope) (fold-roll-Stmt Scoped Scoped (stmt_step w at) block_step Stmt-F.Return)

  pub answer_typed : (e : Expr) (scope : Scope) → S (stmts.ReturnValue e) scope ≡ (value (expr_type w at scope e) >>= value_return w at scope)
  answer_typed e scope = ap (λ z. S z scope) (sym (stmts.rolls-ReturnValue e)) ∙ ap (λ (f : Scoped). f scope) (fold-roll-Stmt Scoped Scoped (stmt_step w at) block_step (Stmt-F.ReturnValue e))

  -- a block of one statement
  pub one_typed : (s : Stmt) (scope : Scope) → block_scope w at (record { statements = s ∷ [] }) scope ≡ (S s scope >>= in_turn [])
  one_typed s scope = ap (λ (f : Scoped). f scope) (block_typed w at (s ∷ []))

  -- is well typed where the statement is
  pub one_went : (s : Stmt) (scope after : Scope) → block_scope w at (record { statements = s ∷ [] }) scope ≡ Ok after → (next : Scope) × (S s scope ≡ Ok next)
  one_went s scope after e = let q = went (S s scope) (in_turn []) after (sym (one_typed s scope) ∙ e) in (q.value, q.first)

-- a body that breaks nothing is well typed
pub body_went : (c : Class) (name : List ℕ) (r : Ruled Scope) → body_breach c name r ≡ [] → (after : Scope) × (r ≡ Ok after)
body_went c name (Ok after) e = (after, refl)
body_went c name (Err rule) e = absurd (cc)

abbrev pub typed_as : ExprType → Typed
typed_as t = Ok t

-- a part that has a value has the type that it came to
pub value_is : (t : ExprType) (part : Typed) → value part ≡ Ok t → (part ≡ Ok t) × (is_nothing t ≡ true → ⊥)
value_is t part e =
    let u = went part value_of t e in
    let d = held 20 (not (is_nothing u.value)) (Ok u.value) t u.further in
    let same : u.value ≡ t = inside u.value t d.1 in
    (u.first ∙ ap typed_as same, λ n. not_both (is_nothing t) (ap (λ z. not (is_nothing z)) (sym same) ∙ d.0) n)
  where
    inside : (a b : ExprType) → ◌≡◌ {A = Typed} (Ok a) (Ok b) → a ≡ b
    inside a b f = cc

    not_both : (b : Bool) → not b ≡ true → b ≡ true → ⊥
    not_both b f g = let h = ap not (sym g) ∙ f in cc
