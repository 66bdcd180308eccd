-- What a call comes to, by what its parts come to.
use Rattle.std.proofs.Common.{◌≡◌, ℕ, List, map, Option, Result, Ok, sym, ap, ◌∙◌, subst}
use Rattle.som_model.specs.declared.key.ValueType.TheVariants as types
use Rattle.som_model.specs.declared.syntax.Expr.TheVariants as exprs
use Rattle.som_model.specs.Class.{Class}
use Rattle.som_model.specs.Steps.{◌>>=◌}
use Rattle.som_model.specs.Typing.{CodePlace, Of}
use Rattle.som_verify_forms.specs.declared.code_place.TypeFault.{TypeFault}
use Rattle.som_verify_forms.proofs.KindLaws.{part_there}
use Rattle.som_ast.specs.declared.words.TypeName.{TypeName}
use Rattle.som_ast.specs.declared.words.Word.{Word}
use Rattle.som_ast.specs.declared.expression.ExprText.{ExprText, fold-roll-ExprText}
use Rattle.som_ast.specs.declared.expression.ExprText.TheVariants as texts
use Rattle.som_ast.specs.declared.expression.ExprText.TheVariants.{rolls-Literal, rolls-Call, rolls-Lookup, rolls-Dispatch, rolls-Parent, rolls-Parents}
use Rattle.som_ast.specs.declared.expression.ExprText.TheOpen.{ExprText-F}
use Rattle.som_elab_body.specs.declared.typed_expr.TypedExpr.{TypedExpr}
use Rattle.som_elab_body.specs.Locals.{Names}
use Rattle.som_elab_body.specs.Expressions.{Among, Elab, Elaborated, call_form, dispatch_form, elaborated, expr_step, formed, lookup_form, parent_form, parents_form, part, parts}
use Rattle.som_elab_body.specs.Code.{Makes}
use Rattle.som_elab_body.specs.Forms.{of_all}

-- what a text comes to, a text that equals it comes to
pub makes_as : (cs : List Class) (elab : ExprText → Elab) (e x : ExprText) (form : Elab) (r : Result TypedExpr TypeFault) → e ≡ x → elab x ≡ form → Makes cs form r → Makes cs (elab e) r
makes_as cs elab e x form r is same makes = subst (λ z. Makes cs z r) (sym (ap elab is ∙ same)) makes

module _ (a : Among) (at : CodePlace) (scope : Names) where
  abbrev T : ExprText → Elab
  T e = elaborated a at scope e

  pub literal_elab : (t : List ℕ) → T (texts.Literal t) ≡ formed (exprs.Str t) (Ok (Of types.Str))
  literal_elab t = ap T (sym (rolls-Literal t)) ∙ fold-roll-ExprText Elab (expr_step a at scope) (ExprText-F.Literal t)

  call_elab : (e : ExprText) (w : Word) (es : List ExprText) → T (texts.Call e w es) ≡ (part (T e) >>= λ on. parts (map T es) >>= call_form a on w.text)
  call_elab e w es = ap T (sym (rolls-Call e w es)) ∙ fold-roll-ExprText Elab (expr_step a at scope) (ExprText-F.Call e w es)

  lookup_elab : (answer : Option TypeName) (e : ExprText) (w : Word) (es : List ExprText) → T (texts.Lookup answer e w es) ≡ (part (T e) >>= λ on. parts (map T es) >>= lookup_form a answer on w.text)
  lookup_elab answer e w es = ap T (sym (rolls-Lookup answer e w es)) ∙ fold-roll-ExprText Elab (expr_step a at scope) (ExprText-F.Lookup answer e w es)

  dispatch_elab : (answer : Option TypeName) (e : ExprText) (w : Word) (es : List ExprText) → T (texts.Dispatch answer e w es) ≡ (part (T e) >>= λ on. parts (map T es) >>= dispatch_form a answer on w.text)
  dispatch_elab answer e w es = ap T (sym (rolls-Dispatch answer e w es)) ∙ fold-roll-ExprText Elab (expr_step a at scope) (ExprText-F.Dispatch answer e w es)

  pub parent_elab : (p w : Word) (es : List ExprText) → T (texts.Parent p w es) ≡ of_all (map T es) (parent_form a at p.text w.text)
  parent_elab p w es = ap T (sym (rolls-Parent p w es)) ∙ fold-roll-ExprText Elab (expr_step a at scope) (ExprText-F.Parent p w es)

  pub parents_elab : (w : Word) (es : List ExprText) → T (texts.Parents w es) ≡ of_all (map T es) (parents_form a at w.text)
  parents_elab w es = ap T (sym (rolls-Parents w es)) ∙ fold-roll-ExprText Elab (expr_step a at scope) (ExprText-F.Parents w es)

  pub call_goes_on : (e : ExprText) (w : Word) (es : List ExprText) (on : Elaborated) → part (T e) ≡ Ok on → T (texts.Call e w es) ≡ of_all (map T es) (call_form a on w.text)
  call_goes_on e w es on there = call_elab e w es ∙ part_there (part (T e)) (λ p. parts (map T es) >>= call_form a p w.text) on there

  pub lookup_goes_on : (answer : Option TypeName) (e : ExprText) (w : Word) (es : List ExprText) (on : Elaborated) → part (T e) ≡ Ok on → T (texts.Lookup answer e w es) ≡ of_all (map T es) (lookup_form a answer on w.text)
  lookup_goes_on answer e w es on there = lookup_elab answer e w es ∙ part_there (part (T e)) (λ p. parts (map T es) >>= lookup_form a answer p w.text) on there

  pub dispatch_goes_on : (answer : Option TypeName) (e : ExprText) (w : Word) (es : List ExprText) (on : Elaborated) → part (T e) ≡ Ok on → T (texts.Dispatch answer e w es) ≡ of_all (map T es) (dispatch_form a answer on w.text)
  dispatch_goes_on answer e w es on there = dispatch_elab answer e w es ∙ part_there (part (T e)) (λ p. parts (map T es) >>= dispatch_form a answer p w.text) on there
