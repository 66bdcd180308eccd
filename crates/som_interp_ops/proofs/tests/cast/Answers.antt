use Rattle.std.proofs.Common.{◌++◌, ◌∷◌, [], Ok, Err, refl, ap, sym, ◌∙◌}
use Rattle.std.proofs.lemmas.Result.{err_from_is_err_and}
use Rattle.som_interp_state.specs.Settings.{shows}
use Rattle.som_interp_ops.specs.Cells.{top_cell, lower_cells}
use Rattle.som_interp_ops.proofs.Done.{did_cast, stopped_cast, cast_among}
use Rattle.som_interp_ops.proofs.Tops.{own_push, own_lower, own_top}
use Rattle.som_interp_ops.proofs.tests.cast.Goals as goal

pub returns-in_err-cast-clause-did : goal.returns-in_err-cast-clause-did
returns-in_err-cast-clause-did g c s h among own heap =
    let p = err_from_is_err_and c.from_residual.result c.from_residual.ensures.1 in
    stopped_cast s h c.args.body.now _ c.from_residual.result c.in_err-cast.field-0.0 c.args.class.now (p.1 ∙ ap (λ z. Err z) p.2)
    (cast_among s.linked (g.C.Classes.keys c.args.classes.now) (g.C.Classes.world c.args.classes.now) among s.serials c.args.objects.now h heap.holds c.args.class.now c.pop-operand.result (top_cell c.args.body.now.operands.items) c.pop-operand.ensures.cell (own_top (shows s) c.args.objects.now c.args.body.now.operands.items own.operands).0 (Err c.in_err-cast.field-0.0) c.in_err-cast.ensures)

pub returns-clause-did : goal.returns-clause-did
returns-clause-did g c s h among own heap =
    did_cast s h c.args.body.now _ (record { levels = refl; me = refl; place = refl; zero = refl; code = refl }) refl refl c.args.class.now
    (sym (cast_among s.linked (g.C.Classes.keys c.args.classes.now) (g.C.Classes.world c.args.classes.now) among s.serials c.args.objects.now h heap.holds c.args.class.now c.pop-operand.result (top_cell c.args.body.now.operands.items) c.pop-operand.ensures.cell (own_top (shows s) c.args.objects.now c.args.body.now.operands.items own.operands).0 (Ok c.in_ok-cast.field-0) c.in_ok-cast.ensures))
    (c.in_ok-push.ensures ∙ ap (λ l. l ++ c.pop-operand.result ∷ []) c.pop-operand.ensures.rest ∙ ap (λ x. lower_cells c.args.body.now.operands.items ++ x ∷ []) c.pop-operand.ensures.cell)

pub returns-clause-own : goal.returns-clause-own
returns-clause-own g c s os own = record {
  me = own.me;
  place = own.place;
  code = own.code;
  operands = own_push (shows s) os (lower_cells c.args.body.now.operands.items) _ (top_cell c.args.body.now.operands.items) (c.in_ok-push.ensures ∙ ap (λ l. l ++ c.pop-operand.result ∷ []) c.pop-operand.ensures.rest ∙ ap (λ x. lower_cells c.args.body.now.operands.items ++ x ∷ []) c.pop-operand.ensures.cell) (own_lower (shows s) os c.args.body.now.operands.items own.operands) (own_top (shows s) os c.args.body.now.operands.items own.operands);
  locals = own.locals;
}
