-- Which expressions are calls.
use Rattle.std.proofs.Common.{◌≡◌, true, List, Option, sym, ◌∙◌, ap}
use Rattle.som_ast.specs.declared.words.TypeName.{TypeName}
use Rattle.som_ast.specs.declared.words.Word.{Word}
use Rattle.som_ast.specs.declared.expression.ExprText.{ExprText, out-ExprText, out-roll-ExprText}
use Rattle.som_ast.specs.declared.expression.ExprText.TheOpen.{ExprText-F}
use Rattle.som_ast.specs.declared.expression.ExprText.TheVariants as expr
use Rattle.som_ast.specs.declared.expression.ExprText.TheVariants.{rolls-Call, rolls-Lookup, rolls-Dispatch}
use Rattle.som_body.specs.Statements.{is_call, is_call_form}

pub step_is_call : (a : ExprText) (m : Word) (g : List ExprText) → is_call (expr.Call a m g) ≡ true
unfolding is_call
step_is_call a m g = ap is_call_form (ap out-ExprText (sym (rolls-Call a m g)) ∙ out-roll-ExprText (ExprText-F.Call a m g))

pub lookup_is_call : (t : Option TypeName) (a : ExprText) (m : Word) (g : List ExprText) → is_call (expr.Lookup t a m g) ≡ true
unfolding is_call
lookup_is_call t a m g = ap is_call_form (ap out-ExprText (sym (rolls-Lookup t a m g)) ∙ out-roll-ExprText (ExprText-F.Lookup t a m g))

pub dispatch_is_call : (t : Option TypeName) (a : ExprText) (m : Word) (g : List ExprText) → is_call (expr.Dispatch t a m g) ≡ true
unfolding is_call
dispatch_is_call t a m g = ap is_call_form (ap out-ExprText (sym (rolls-Dispatch t a m g)) ∙ out-roll-ExprText (ExprText-F.Dispatch t a m g))
