use Rattle.std.proofs.Common.{◌++◌, ◌∷◌, [], refl, ap, ◌∙◌}
use Rattle.som_interp_state.specs.Settings.{shows}
use Rattle.som_interp_ops.proofs.Done.{did_get}
use Rattle.som_interp_ops.proofs.Tops.{own_push, own_local}
use Rattle.som_interp_ops.proofs.locals.get.Goals as goal

pub returns-clause-did : goal.returns-clause-did
returns-clause-did c s h = did_get s h c.args.body.now _ (record { levels = refl; me = refl; place = refl; zero = refl; code = refl }) refl refl c.args.place (c.in_ok-push.ensures ∙ ap (λ x. c.args.body.now.operands.items ++ x ∷ []) c.in_ok-local.ensures)

pub returns-clause-own : goal.returns-clause-own
returns-clause-own c s os own = record {
  me = own.me;
  place = own.place;
  code = own.code;
  operands = own_push (shows s) os c.args.body.now.operands.items _ _ (c.in_ok-push.ensures ∙ ap (λ x. c.args.body.now.operands.items ++ x ∷ []) c.in_ok-local.ensures) own.operands (own_local (shows s) os c.args.body.now.locals.items c.args.place own.locals);
  locals = own.locals;
}
