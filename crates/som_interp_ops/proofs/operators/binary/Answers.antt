use Rattle.std.proofs.Common.{◌++◌, ◌∷◌, [], refl, ap, sym, subst, ◌∙◌}
use Rattle.std.proofs.lemmas.Result.{err_from_is_err_and}
use Rattle.std.proofs.Common.{◌≡◌, Ok, Err}
use Rattle.som_semantics.specs.Values.{binary, binary_op}
use Rattle.som_values.specs.Shown.{shown}
use Rattle.som_values.specs.Answers.{Answers}
use Rattle.som_interp_state.specs.Settings.{shows}
use Rattle.som_interp_ops.specs.Cells.{top_cell, lower_cells}
use Rattle.som_interp_ops.proofs.Done.{did_binary, stopped_binary, left_own, right_own}
use Rattle.som_interp_ops.proofs.Tops.{own_push, own_lower}
use Rattle.som_interp_ops.proofs.operators.binary.Goals as goal

pub returns-in_err-value-clause-did : goal.returns-in_err-value-clause-did
returns-in_err-value-clause-did c s os h apart own = stopped_binary s h c.args.body.now _ c.from_residual.result c.in_err-value.field-0.0 c.args.number (let p = err_from_is_err_and c.from_residual.result c.from_residual.ensures.1 in p.1 ∙ ap (λ z. Err z) p.2)
    (subst (λ x. Answers (shows s) (Err c.in_err-value.field-0.0) (binary (binary_op c.args.number) (shown (shows s) x) (shown (shows s) (top_cell c.args.body.now.operands.items)))) (c.pop-left.ensures.cell ∙ ap top_cell c.pop-right.ensures.rest) (subst (λ y. Answers (shows s) (Err c.in_err-value.field-0.0) (binary (binary_op c.args.number) (shown (shows s) c.pop-left.result) (shown (shows s) y))) c.pop-right.ensures.cell (c.in_err-value.ensures.means (shows s) apart (left_own s os c.args.body.now c.pop-left.result (c.pop-left.ensures.cell ∙ ap top_cell c.pop-right.ensures.rest) own).0 (right_own s os c.args.body.now c.pop-right.result c.pop-right.ensures.cell own).0)))

pub returns-clause-did : goal.returns-clause-did
returns-clause-did c s os h apart own = did_binary s h c.args.body.now _ (record { levels = refl; me = refl; place = refl; zero = refl; code = refl }) refl refl c.args.number c.in_ok-value.value
    (subst (λ x. binary (binary_op c.args.number) (shown (shows s) x) (shown (shows s) (top_cell c.args.body.now.operands.items)) ≡ Ok (shown (shows s) c.in_ok-value.value)) (c.pop-left.ensures.cell ∙ ap top_cell c.pop-right.ensures.rest) (subst (λ y. binary (binary_op c.args.number) (shown (shows s) c.pop-left.result) (shown (shows s) y) ≡ Ok (shown (shows s) c.in_ok-value.value)) c.pop-right.ensures.cell (c.in_ok-value.ensures.means (shows s) apart (left_own s os c.args.body.now c.pop-left.result (c.pop-left.ensures.cell ∙ ap top_cell c.pop-right.ensures.rest) own).0 (right_own s os c.args.body.now c.pop-right.result c.pop-right.ensures.cell own).0)))
    (c.in_ok-push.ensures ∙ ap (λ l. l ++ c.in_ok-value.value ∷ []) (c.pop-left.ensures.rest ∙ ap lower_cells c.pop-right.ensures.rest))

pub returns-clause-own : goal.returns-clause-own
returns-clause-own c s os own = record {
  me = own.me;
  place = own.place;
  code = own.code;
  operands = own_push (shows s) os (lower_cells (lower_cells c.args.body.now.operands.items)) _ c.in_ok-value.value (c.in_ok-push.ensures ∙ ap (λ l. l ++ c.in_ok-value.value ∷ []) (c.pop-left.ensures.rest ∙ ap lower_cells c.pop-right.ensures.rest)) (own_lower (shows s) os (lower_cells c.args.body.now.operands.items) (own_lower (shows s) os c.args.body.now.operands.items own.operands))
      (let left = left_own s os c.args.body.now c.pop-left.result (c.pop-left.ensures.cell ∙ ap top_cell c.pop-right.ensures.rest) own in (c.in_ok-value.ensures.seen (shows s) left.0, c.in_ok-value.ensures.kept os left.1));
  locals = own.locals;
}
