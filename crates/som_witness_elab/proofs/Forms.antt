-- What the forms that W's bodies are made of come to.
use Rattle.std.proofs.Common.{◌≡◌, ℕ, zero, suc, ◌+◌, true, false, not, ◌&&◌, List, [], ◌∷◌, map, Option, Some, None, Ok, refl, sym, ap, ◌∙◌}
use Rattle.std.specs.Prelude.{codes}
use Rattle.som_model.specs.declared.key.ClassKey.{ClassKey}
use Rattle.som_model.specs.declared.key.MethodRef.{MethodRef}
use Rattle.som_model.specs.declared.key.ValueType.{ValueType}
use Rattle.som_model.specs.declared.key.ValueType.TheVariants as types
use Rattle.som_model.specs.declared.syntax.Expr.{Expr, out-Expr, out-roll-Expr}
use Rattle.som_model.specs.declared.syntax.Expr.TheOpen.{Expr-F}
use Rattle.som_model.specs.declared.syntax.Expr.TheVariants as exprs
use Rattle.som_model.specs.declared.syntax.Stmt.{Stmt}
use Rattle.som_model.specs.declared.syntax.Stmt.TheVariants as stmts
use Rattle.som_model.specs.declared.class.Sig.{Sig}
use Rattle.som_model.specs.declared.class.Way.TheVariants as ways
use Rattle.som_model.specs.Steps.{◌>>=◌}
use Rattle.som_model.specs.Blocks.{is_call, is_call_form}
use Rattle.som_model.specs.Typing.{CodePlace, ExprType, Of, PlainNil, Ruled, all_fit, class_type, fits, is_nothing, local_type, needs, own_variable, there}
use Rattle.som_model.proofs.StepLaws.{met}
use Rattle.som_release_laws.proofs.Lists.{both_true}
use Rattle.som_ast.specs.declared.words.Word.{Word}
use Rattle.som_ast.specs.declared.expression.ExprText.{ExprText, fold-roll-ExprText}
use Rattle.som_ast.specs.declared.expression.ExprText.TheOpen.{ExprText-F}
use Rattle.som_ast.specs.declared.expression.ExprText.TheVariants as texts
use Rattle.som_ast.specs.declared.body.StmtText.{StmtText}
use Rattle.som_ast.specs.declared.body.StmtText.TheVariants as stmt_texts
use Rattle.som_elab_body.specs.Locals.{Names, kinds_of, local_of}
use Rattle.som_elab_body.specs.Methods.{Method, method_for, variable_place}
use Rattle.som_elab_body.specs.Expressions.{Among, Elab, Elaborated, call_form, called_by, class_form, class_named, elaborated, expr_step, exprs_of, facts_among, formed, local_form, part, parts, types_of, variable_form}
use Rattle.som_elab_body.specs.Stated.{by_value}
use Rattle.som_elab_body.specs.Statements.{Placed, Told, call_statement, elaborated_block, elaborated_stmt, in_turn, placed, ruled, set_variable, value_return}
use Rattle.som_elab_body.proofs.ElabLaws.{call_goes_on, literal_elab}
use Rattle.som_elab_body.proofs.TextForms.{block_is, call_is, return_is, set_variable_is}
use Rattle.som_witness.specs.Program.{call_on_c, zero_value, zero_values, zero_values_with}
use Rattle.som_witness.proofs.WellTyped.{zero_type, zero_types, zero_types_with}
use Rattle.som_witness_texts.specs.Trees.{name_at, zero_tree, zero_trees, zero_trees_with}

-- an expression with its type
abbrev pub typed : Expr → ExprType → Elaborated
typed e t = record { expr = e; type = t }

abbrev pub comes : Expr → ExprType → Elab
comes e t = Ok (typed e t)

module _ (a : Among) (at : CodePlace) (scope : Names) where
  abbrev T : ExprText → Elab
  T e = elaborated a at scope e

  name_elab : (w : Word) → T (texts.Name w) ≡ local_form scope w.text
  name_elab w = ap T (sym (texts.rolls-Name w)) ∙ fold-roll-ExprText Elab (expr_step a at scope) (ExprText-F.Name w)

  variable_elab : (w : Word) → T (texts.Variable w) ≡ variable_form at w.text
  variable_elab w = ap T (sym (texts.rolls-Variable w)) ∙ fold-roll-ExprText Elab (expr_step a at scope) (ExprText-F.Variable w)

  class_elab : (w : Word) → T (texts.Class w) ≡ class_form a w.text
  class_elab w = ap T (sym (texts.rolls-Class w)) ∙ fold-roll-ExprText Elab (expr_step a at scope) (ExprText-F.Class w)

  nil_elab : T texts.Nil ≡ comes exprs.Nil PlainNil
  nil_elab = ap T (sym texts.rolls-Nil) ∙ fold-roll-ExprText Elab (expr_step a at scope) ExprText-F.Nil

  zero_elab : (t : ValueType) → T (zero_tree t) ≡ comes (zero_value t) (zero_type t)
  zero_elab types.Void = nil_elab
  zero_elab types.Long = ap T (sym (texts.rolls-Number 0)) ∙ fold-roll-ExprText Elab (expr_step a at scope) (ExprText-F.Number 0)
  zero_elab types.Boolean = ap T (sym (texts.rolls-Boolean false)) ∙ fold-roll-ExprText Elab (expr_step a at scope) (ExprText-F.Boolean false)
  zero_elab types.Str = literal_elab a at scope []
  zero_elab (types.Class k) = nil_elab

  zero_part : (t : ValueType) → part (T (zero_tree t)) ≡ comes (zero_value t) (zero_type t)
  zero_part types.Void = ap part (zero_elab types.Void)
  zero_part types.Long = ap part (zero_elab types.Long)
  zero_part types.Boolean = ap part (zero_elab types.Boolean)
  zero_part types.Str = ap part (zero_elab types.Str)
  zero_part (types.Class k) = ap part (zero_elab (types.Class k))

  -- a local by its name
  pub local_comes : (w : Word) (n : ℕ) (kind : ValueType) → local_of scope w.text ≡ Some n → local_type (kinds_of scope) n ≡ Ok (Of kind) → T (texts.Name w) ≡ comes (exprs.Local n) (Of kind)
  local_comes w n kind here is =
      name_elab w
      ∙ ap (λ (o : Option ℕ). there 16 o >>= λ n. formed (exprs.Local n) (local_type (kinds_of scope) n)) here
      ∙ ap (formed (exprs.Local n)) is

  -- a variable of W by its name
  pub variable_comes : (w : Word) (n : ℕ) (kind : ValueType) → variable_place at.class w.text ≡ Some n → own_variable at n ≡ Ok kind → T (texts.Variable w) ≡ comes (exprs.Variable n) (Of kind)
  variable_comes w n kind here is =
      variable_elab w
      ∙ ap (λ (o : Option ℕ). there 16 o >>= λ n. formed (exprs.Variable n) (own_variable at n >>= λ kind. Ok (Of kind))) here
      ∙ ap (λ (o : Ruled ValueType). formed (exprs.Variable n) (o >>= λ kind. Ok (Of kind))) is

  -- a class object
  pub class_comes : (w : Word) (k object : ClassKey) → class_named a w.text ≡ k → (facts_among a).is_known k ≡ true → (facts_among a).class_object k ≡ object → T (texts.Class w) ≡ comes (exprs.Class k) (Of (types.Class object))
  class_comes w k object is known of =
      class_elab w
      ∙ ap (λ (z : ClassKey). formed (exprs.Class z) (class_type (facts_among a) z)) is
      ∙ ap (formed (exprs.Class k)) (met 16 ((facts_among a).is_known k) (Ok (Of (types.Class ((facts_among a).class_object k)))) known)
      ∙ ap (λ (z : ClassKey). comes (exprs.Class k) (Of (types.Class z))) of

  -- ---- arguments

  pub record Arguments (es : List ExprText) (xs : List Expr) (ts : List ExprType) : Type 0 where
    pub made : List Elaborated
    pub parts_are : parts (map T es) ≡ Ok made
    pub exprs_are : exprs_of made ≡ xs
    pub types_are : types_of made ≡ ts

  one_argument : (e : ExprText) (x : Expr) (t : ExprType) (es : List ExprText) (xs : List Expr) (ts : List ExprType) → part (T e) ≡ comes x t → Arguments es xs ts → Arguments (e ∷ es) (x ∷ xs) (t ∷ ts)
  one_argument e x t es xs ts is more = record {
    made = typed x t ∷ more.made;
    parts_are =
        ap (λ (z : Elab). z >>= λ p. parts (map T es) >>= λ ps. Ok (p ∷ ps)) is
        ∙ ap (λ (z : Ruled (List Elaborated)). z >>= λ ps. Ok (typed x t ∷ ps)) more.parts_are;
    exprs_are = ap (λ (z : List Expr). x ∷ z) more.exprs_are;
    types_are = ap (λ (z : List ExprType). t ∷ z) more.types_are;
  }

  no_argument : Arguments [] [] []
  no_argument = record { made = []; parts_are = refl; exprs_are = refl; types_are = refl }

  pub zeros : (ps : List ValueType) → Arguments (zero_trees ps) (zero_values ps) (zero_types ps)
  zeros [] = no_argument
  zeros (t ∷ ts) = one_argument (zero_tree t) (zero_value t) (zero_type t) (zero_trees ts) (zero_values ts) (zero_types ts) (zero_part t) (zeros ts)

  -- with x, the second parameter, at one place
  pub zeros_with : (kind : ValueType) → ((p : ℕ) → part (T (name_at p (codes "x"))) ≡ comes (exprs.Local 1) (Of kind)) → (p j : ℕ) (ps : List ValueType) → Arguments (zero_trees_with p j ps) (zero_values_with j ps) (zero_types_with j kind ps)
  zeros_with kind x p zero [] = no_argument
  zeros_with kind x p (suc j) [] = no_argument
  zeros_with kind x p zero (t ∷ ts) = one_argument (name_at p (codes "x")) (exprs.Local 1) (Of kind) (zero_trees ts) (zero_values ts) (zero_types ts) (x p) (zeros ts)
  zeros_with kind x p (suc j) (t ∷ ts) = one_argument (zero_tree t) (zero_value t) (zero_type t) (zero_trees_with (p + 2) j ts) (zero_values_with j ts) (zero_types_with j kind ts) (zero_part t) (zeros_with kind x (p + 2) j ts)

  -- ---- a call on c

  -- what is known of the method of the call
  pub record Callee (k : ClassKey) (x : List ℕ) (sig : Sig) : Type 0 where
    pub method : method_for a.classes (Of (types.Class k)) x ≡ Some (record { ref = record { class = k; name = x }; sig = sig; way = ways.Offset })
    pub signature : (facts_among a).signature (record { class = k; name = x }) ≡ Some sig
    pub itself : (facts_among a).is_a k k ≡ true

  abbrev method_ref : ClassKey → List ℕ → MethodRef
  method_ref k x = record { class = k; name = x }

  call_made : (k : ClassKey) (x : List ℕ) (sig : Sig) (made : List Elaborated) → Callee k x sig → all_fit (facts_among a) sig.params (types_of made) ≡ true
      → call_form a (typed (exprs.Local 0) (Of (types.Class k))) x made ≡ comes (call_on_c (method_ref k x) (exprs_of made)) (Of sig.result)
  call_made k x sig made callee fit =
      let on = typed (exprs.Local 0) (Of (types.Class k)) in
      let w = facts_among a in
      ap (λ (o : Option Method). there 16 o >>= λ m. called_by w on made m m.way) callee.method
      ∙ ap (λ (o : Option Sig). formed (call_on_c (method_ref k x) (exprs_of made)) (there 16 o >>= λ sig. needs 17 (w.is_a k k) (needs 18 (all_fit w sig.params (types_of made)) (Ok (Of sig.result))))) callee.signature
      ∙ ap (formed (call_on_c (method_ref k x) (exprs_of made)))
      (met 17 (w.is_a k k) (needs 18 (all_fit w sig.params (types_of made)) (Ok (Of sig.result))) callee.itself
      ∙ met 18 (all_fit w sig.params (types_of made)) (Ok (Of sig.result)) fit)

  pub call_comes : (e : ExprText) (w : Word) (k : ClassKey) (sig : Sig) (es : List ExprText) (xs : List Expr) (ts : List ExprType) → part (T e) ≡ comes (exprs.Local 0) (Of (types.Class k)) → Callee k w.text sig → Arguments es xs ts
      → all_fit (facts_among a) sig.params ts ≡ true → T (texts.Call e w es) ≡ comes (call_on_c (method_ref k w.text) xs) (Of sig.result)
  call_comes e w k sig es xs ts on callee args fit =
      call_goes_on a at scope e w es (typed (exprs.Local 0) (Of (types.Class k))) on
      ∙ ap (λ (z : Ruled (List Elaborated)). z >>= call_form a (typed (exprs.Local 0) (Of (types.Class k))) w.text) args.parts_are
      ∙ call_made k w.text sig args.made callee (ap (all_fit (facts_among a) sig.params) args.types_are ∙ fit)
      ∙ ap (λ (z : List Expr). comes (call_on_c (method_ref k w.text) z) (Of sig.result)) args.exprs_are

  -- ---- statements and blocks

  abbrev S : StmtText → Told Placed
  S s = elaborated_stmt a at s scope

  abbrev states : Stmt → Told Placed
  states s = Ok (record { stmt = s; scope = scope })

  -- the part of what has a value
  pub valued_part : (e : ExprText) (x : Expr) (t : ExprType) → T e ≡ comes x t → is_nothing t ≡ false → part (T e) ≡ comes x t
  valued_part e x t is some = ap part is ∙ met 20 (not (is_nothing t)) (comes x t) (ap not some)

  pub set_states : (w : Word) (e : ExprText) (x : Expr) (t : ExprType) (kind : ValueType) → part (T e) ≡ comes x t → variable_place at.class w.text ≡ Some 0 → own_variable at 0 ≡ Ok kind → fits (facts_among a) kind t ≡ true
      → S (stmt_texts.SetVariable w e) ≡ states (stmts.SetVariable 0 x)
  set_states w e x t kind is here of fit =
      set_variable_is a at scope w e
      ∙ ap (λ (z : Elab). by_value z (set_variable a at scope w.text)) is
      ∙ ap (λ (o : Option ℕ). ruled (there 16 o >>= λ n. own_variable at n >>= λ kind. needs 17 (fits (facts_among a) kind t) (placed scope (stmts.SetVariable n x)))) here
      ∙ ap (λ (o : Ruled ValueType). ruled (o >>= λ kind. needs 17 (fits (facts_among a) kind t) (placed scope (stmts.SetVariable 0 x)))) of
      ∙ ap ruled (met 17 (fits (facts_among a) kind t) (placed scope (stmts.SetVariable 0 x)) fit)

  pub call_states : (e : ExprText) (m : MethodRef) (xs : List Expr) (t : ExprType) → T e ≡ comes (call_on_c m xs) t → S (stmt_texts.Call e) ≡ states (stmts.Call (call_on_c m xs))
  call_states e m xs t is =
      call_is a at scope e
      ∙ ap (λ (z : Elab). by_value z (call_statement scope)) is
      ∙ ap ruled (met 20 (is_call (call_on_c m xs)) (placed scope (stmts.Call (call_on_c m xs))) (ap is_call_form (ap out-Expr (sym (exprs.rolls-OffsetCall m (exprs.Local 0) xs)) ∙ out-roll-Expr (Expr-F.OffsetCall m (exprs.Local 0) xs))))

  pub return_states : is_nothing (Of at.result) ≡ true → S (stmt_texts.Return None) ≡ states stmts.Return
  return_states nothing = return_is a at scope None ∙ ap ruled (met 19 (is_nothing (Of at.result)) (placed scope stmts.Return) nothing)

  pub answer_states : (e : ExprText) (x : Expr) (t : ExprType) → part (T e) ≡ comes x t → is_nothing (Of at.result) ≡ false → fits (facts_among a) at.result t ≡ true → S (stmt_texts.Return (Some e)) ≡ states (stmts.ReturnValue x)
  answer_states e x t is some fit =
      return_is a at scope (Some e)
      ∙ ap (λ (z : Elab). ruled (z >>= value_return a at scope)) is
      ∙ ap ruled (met 19 (not (is_nothing (Of at.result)) && fits (facts_among a) at.result t) (placed scope (stmts.ReturnValue x)) (both_true (not (is_nothing (Of at.result))) (fits (facts_among a) at.result t) (ap not some) fit))

  -- a block of one statement
  pub one_stated : (s : StmtText) (x : Stmt) → S s ≡ states x → elaborated_block a at (record { statements = s ∷ [] }) scope ≡ Ok (record { statements = x ∷ [] })
  one_stated s x is =
      block_is a at (record { statements = s ∷ [] }) scope
      ∙ ap (λ (z : Told Placed). (z >>= λ p. in_turn [] p.scope >>= λ more. Ok (p.stmt ∷ more)) >>= λ ss. Ok (record { statements = ss })) is

  pub none_stated : elaborated_block a at (record { statements = [] }) scope ≡ Ok (record { statements = [] })
  none_stated = block_is a at (record { statements = [] }) scope
