use Rattle.std.proofs.Common.{refl, sym, subst}
use Rattle.som_interp_state.specs.Settings.{shows}
use Rattle.som_interp_state.specs.Own.{AreOwn}
use Rattle.som_interp_ops.proofs.Done.{did_drop}
use Rattle.som_interp_ops.proofs.Tops.{own_lower}
use Rattle.som_interp_ops.proofs.values.drop_top.Goals as goal

pub returns-clause-did : goal.returns-clause-did
returns-clause-did c s h = did_drop s h c.args.body.now _ (record { levels = refl; me = refl; place = refl; zero = refl; code = refl }) refl refl c.pop.ensures.rest

pub returns-clause-own : goal.returns-clause-own
returns-clause-own c s os own = record {
  me = own.me;
  place = own.place;
  code = own.code;
  operands = subst (AreOwn (shows s) os) (sym c.pop.ensures.rest) (own_lower (shows s) os c.args.body.now.operands.items own.operands);
  locals = own.locals;
}
