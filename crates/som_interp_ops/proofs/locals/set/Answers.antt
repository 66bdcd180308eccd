use Rattle.std.proofs.Common.{refl, ap, sym, subst, ◌∙◌}
use Rattle.som_interp_state.specs.Settings.{shows}
use Rattle.som_interp_state.specs.Own.{AreOwn}
use Rattle.som_interp_ops.specs.Cells.{set_cell}
use Rattle.som_interp_ops.proofs.Done.{did_set}
use Rattle.som_interp_ops.proofs.Tops.{own_lower, own_set, own_top}
use Rattle.som_interp_ops.proofs.locals.set.Goals as goal

pub returns-clause-did : goal.returns-clause-did
returns-clause-did c s h = did_set s h c.args.body.now _ (record { levels = refl; me = refl; place = refl; zero = refl; code = refl }) refl c.args.place c.pop-cell.ensures.rest (c.in_ok-put.ensures ∙ ap (set_cell c.args.body.now.locals.items c.args.place) c.pop-cell.ensures.cell)

pub returns-clause-own : goal.returns-clause-own
returns-clause-own c s os own = record {
  me = own.me;
  place = own.place;
  code = own.code;
  operands = subst (AreOwn (shows s) os) (sym c.pop-cell.ensures.rest) (own_lower (shows s) os c.args.body.now.operands.items own.operands);
  locals = subst (AreOwn (shows s) os) (sym (c.in_ok-put.ensures ∙ ap (set_cell c.args.body.now.locals.items c.args.place) c.pop-cell.ensures.cell)) (own_set (shows s) os c.args.body.now.locals.items c.args.place _ own.locals (own_top (shows s) os c.args.body.now.operands.items own.operands));
}
