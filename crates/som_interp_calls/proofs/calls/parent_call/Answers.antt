use Rattle.std.proofs.Common.{[], ◌∷◌, ◌++◌, Err, sym, ap, subst, ◌∙◌}
use Rattle.std.proofs.lemmas.Result.{err_from_is_err_and}
use Rattle.som_code_cache.specs.Coded.{codes_of}
use Rattle.som_interp_state.specs.declared.frames.Waiting.TheVariants as waits
use Rattle.som_interp_loop.specs.Scene.{scene}
use Rattle.som_interp_calls.specs.Calling.{ComesTo}
use Rattle.som_interp_calls.proofs.Upwards.{parent_goes, parent_stops}
use Rattle.som_interp_calls.proofs.calls.parent_call.Goals as goal

pub returns-in_err-call : goal.returns-in_err-call
returns-in_err-call c = record {
  comes = λ l kn main made os t f m q frames owner token class parent is. (
      let p = err_from_is_err_and c.from_residual-in_err-call.result c.from_residual-in_err-call.ensures.1 in
      subst (λ z. ComesTo (scene l kn main made os t f) (scene l kn main made os (record t { frames = c.args.frames.now }) f) c.args.body z []) (sym (p.1 ∙ ap (λ e. Err e) p.2))
      (parent_stops l kn main made os t c.args.frames.now f c.args.body q m c.args.count is c.args.parent parent c.in_ok-args.args.items c.in_ok-args.ensures.args
      c.take_parent_call.new.body c.in_ok-args.ensures.same c.in_ok-args.ensures.rest c.in_err-call.field-0.0
      (λ h. c.in_err-call.ensures.passes l t.serials (codes_of t.codes) h m owner)));
}

pub returns : goal.returns
returns c = record {
  comes = λ l kn main made os t f m q frames owner token class parent is. (
      let of = c.in_ok-call.ensures in
      parent_goes l kn main made os t c.wait.new.frames f c.args.body q m c.args.count is c.args.parent parent c.in_ok-args.args.items c.in_ok-args.ensures.args
      c.take_parent_call.new.body c.in_ok-args.ensures.same c.in_ok-args.ensures.rest c.in_ok-call.call
      (λ h. of.passes l t.serials (codes_of t.codes) h m owner) (λ place me args. of.usable l made t.serials (codes_of t.codes) os place class token me args) (of.live os)
      (c.in_ok-wait.ensures.items ∙ ap (λ fs. fs.waiting.items ++ waits.Call c.take_parent_call.new.body ∷ []) (sym frames)));
}
