use Rattle.std.proofs.Common.{◌++◌, ◌∷◌, [], refl, ap, sym, subst, ◌∙◌}
use Rattle.std.proofs.lemmas.Result.{err_from_is_err_and}
use Rattle.std.proofs.Common.{◌≡◌, Ok, Err}
use Rattle.som_semantics.specs.Values.{unary, unary_op}
use Rattle.som_values.specs.Shown.{shown}
use Rattle.som_values.specs.Answers.{Answers}
use Rattle.som_interp_state.specs.Settings.{shows}
use Rattle.som_interp_state.specs.Own.{IsOwn}
use Rattle.som_interp_ops.specs.Cells.{lower_cells}
use Rattle.som_interp_ops.proofs.Done.{did_unary, stopped_unary}
use Rattle.som_interp_ops.proofs.Tops.{own_push, own_lower, own_top}
use Rattle.som_interp_ops.proofs.operators.unary.Goals as goal

pub returns-in_err-value-clause-did : goal.returns-in_err-value-clause-did
returns-in_err-value-clause-did c s h = stopped_unary s h c.args.body.now _ c.from_residual.result c.in_err-value.field-0.0 c.args.number (let p = err_from_is_err_and c.from_residual.result c.from_residual.ensures.1 in p.1 ∙ ap (λ z. Err z) p.2) (subst (λ x. Answers (shows s) (Err c.in_err-value.field-0.0) (unary (unary_op c.args.number) (shown (shows s) x))) c.pop-operand.ensures.cell (c.in_err-value.ensures.means (shows s)))

pub returns-clause-did : goal.returns-clause-did
returns-clause-did c s h = did_unary s h c.args.body.now _ (record { levels = refl; me = refl; place = refl; zero = refl; code = refl }) refl refl c.args.number c.in_ok-value.value (subst (λ x. unary (unary_op c.args.number) (shown (shows s) x) ≡ Ok (shown (shows s) c.in_ok-value.value)) c.pop-operand.ensures.cell (c.in_ok-value.ensures.means (shows s))) (c.in_ok-push.ensures ∙ ap (λ l. l ++ c.in_ok-value.value ∷ []) c.pop-operand.ensures.rest)

pub returns-clause-own : goal.returns-clause-own
returns-clause-own c s os own = record {
  me = own.me;
  place = own.place;
  code = own.code;
  operands = own_push (shows s) os (lower_cells c.args.body.now.operands.items) _ c.in_ok-value.value (c.in_ok-push.ensures ∙ ap (λ l. l ++ c.in_ok-value.value ∷ []) c.pop-operand.ensures.rest) (own_lower (shows s) os c.args.body.now.operands.items own.operands)
      (let top = subst (IsOwn (shows s) os) (sym c.pop-operand.ensures.cell) (own_top (shows s) os c.args.body.now.operands.items own.operands) in (c.in_ok-value.ensures.seen (shows s) top.0, c.in_ok-value.ensures.kept os top.1));
  locals = own.locals;
}
