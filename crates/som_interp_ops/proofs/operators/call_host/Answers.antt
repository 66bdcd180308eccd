use Rattle.std.proofs.Common.{◌++◌, ◌∷◌, [], refl, ap, ◌∙◌}
use Rattle.som_semantics.specs.Values.{host}
use Rattle.som_values.specs.Shown.{shown}
use Rattle.som_interp_state.specs.Settings.{shows}
use Rattle.som_interp_ops.specs.Cells.{top_cell, lower_cells}
use Rattle.som_interp_ops.proofs.Done.{did_host}
use Rattle.som_interp_ops.proofs.Tops.{own_push, own_lower}
use Rattle.som_interp_ops.proofs.operators.call_host.Goals as goal

pub returns-clause-did : goal.returns-clause-did
returns-clause-did g c s h = did_host s h c.args.body.now _ (record { levels = refl; me = refl; place = refl; zero = refl; code = refl }) refl refl c.args.code c.host.result (c.host.ensures.means (shows s) ∙ ap (λ x. host c.args.code (shown (shows s) x) (shown (shows s) c.pop-right.result)) (c.pop-left.ensures.cell ∙ ap top_cell c.pop-right.ensures.rest) ∙ ap (λ y. host c.args.code (shown (shows s) (top_cell (lower_cells c.args.body.now.operands.items))) (shown (shows s) y)) c.pop-right.ensures.cell) (c.in_ok-push.ensures ∙ ap (λ l. l ++ c.host.result ∷ []) (c.pop-left.ensures.rest ∙ ap lower_cells c.pop-right.ensures.rest))

pub returns-clause-own : goal.returns-clause-own
returns-clause-own g c s os own = record {
  me = own.me;
  place = own.place;
  code = own.code;
  operands = own_push (shows s) os (lower_cells (lower_cells c.args.body.now.operands.items)) _ c.host.result (c.in_ok-push.ensures ∙ ap (λ l. l ++ c.host.result ∷ []) (c.pop-left.ensures.rest ∙ ap lower_cells c.pop-right.ensures.rest)) (own_lower (shows s) os (lower_cells c.args.body.now.operands.items) (own_lower (shows s) os c.args.body.now.operands.items own.operands)) (c.host.ensures.seen (shows s), c.host.ensures.kept os);
  locals = own.locals;
}
