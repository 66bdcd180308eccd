use Rattle.std.proofs.Common.{[], ◌∷◌, ◌++◌, Err, refl, sym, ap, subst, ◌∙◌}
use Rattle.std.proofs.lemmas.Result.{err_from_is_err_and}
use Rattle.som_code_cache.specs.Coded.{codes_of}
use Rattle.som_model.specs.Kernel.{som_dispatch_name}
use Rattle.som_interp_state.specs.declared.frames.Waiting.TheVariants as waits
use Rattle.som_interp_loop.specs.Scene.{scene}
use Rattle.som_interp_calls.specs.Calling.{ComesTo}
use Rattle.som_interp_calls.proofs.Dispatches.{dispatch_goes, dispatch_owner, dispatch_stops}
use Rattle.som_interp_calls.proofs.Objects.{two_pushed}
use Rattle.som_interp_calls.proofs.dispatching.dispatch_call.Goals as goal

pub test_offset-requires : goal.test_offset-requires
test_offset-requires g c =
    let r = c.args.runtime.now in
    dispatch_owner (g.R.Runtime.linked r) (g.R.Classes.made r) c.args.objects.now c.args.body.operands.items c.args.count c.in_ok-on.on c.in_ok-receiver.receiver c.args.name.now c.in_ok-given.given.items c.in_ok-on.ensures.receiver c.in_ok-receiver.ensures c.in_ok-given.ensures c.requires.owner

pub returns-in_err-call : goal.returns-in_err-call
returns-in_err-call g c = record {
  comes = λ t f wanted frames is. (
      let r = c.args.runtime.now in
      let l = g.R.Runtime.linked r in
      let token = c.dispatch_token-method.ensures in
      let p = err_from_is_err_and c.from_residual-in_err-call.result c.from_residual-in_err-call.ensures.1 in
      subst (λ z. ComesTo (scene l (g.R.ClassKeys.known r) (g.R.Runtime.program r) (g.R.Classes.made r) c.args.objects.now t f) (scene l (g.R.ClassKeys.known r) (g.R.Runtime.program r) (g.R.Classes.made r) c.args.objects.now (record t { frames = c.args.frames.now }) f) c.args.body z []) (sym (p.1 ∙ ap (λ e. Err e) p.2))
      (dispatch_stops l (g.R.ClassKeys.known r) (g.R.Runtime.program r) (g.R.Classes.made r) c.args.objects.now t c.args.frames.now f c.args.body wanted c.args.name.now c.args.count is c.in_ok-on.on c.in_ok-on.ensures.receiver (record c.args.body { operands = c.in_ok-on.args }) c.in_ok-on.ensures.args
      c.in_ok-receiver.receiver c.in_ok-receiver.ensures c.in_ok-given.given.items c.in_ok-given.ensures c.take_call.new.body c.in_ok-on.ensures.same c.in_ok-on.ensures.rest c.in_err-call.field-0.0
      (λ h holds seen. c.in_err-call.ensures.passes t.serials (codes_of t.codes) h som_dispatch_name (token.owner ∙ sym token.method) holds seen)));
}

pub returns : goal.returns
returns g c = record {
  comes = λ t f wanted frames is. (
      let r = c.args.runtime.now in
      let l = g.R.Runtime.linked r in
      let of = c.in_ok-call.ensures in
      let token = c.dispatch_token-method.ensures in
      let new = c.take_call.new.body in
      dispatch_goes l (g.R.ClassKeys.known r) (g.R.Runtime.program r) (g.R.Classes.made r) c.args.objects.now t c.wait-2.new.frames f c.args.body wanted c.args.name.now c.args.count is c.in_ok-on.on c.in_ok-on.ensures.receiver (record c.args.body { operands = c.in_ok-on.args }) c.in_ok-on.ensures.args
      c.in_ok-receiver.receiver c.in_ok-receiver.ensures c.in_ok-given.given.items c.in_ok-given.ensures new c.in_ok-on.ensures.same c.in_ok-on.ensures.rest c.in_ok-call.call
      (λ h holds seen. of.passes t.serials (codes_of t.codes) h som_dispatch_name (token.owner ∙ sym token.method) holds seen) (λ place on args. of.usable t.serials (codes_of t.codes) place token.token on args) of.live
      (two_pushed t.frames.waiting.items c.wait.new.frames.waiting.items c.wait-2.new.frames.waiting.items (waits.Call new) (waits.Call new) c.for_name-dispatch.result (waits.Name new.levels new.place new.code c.args.body.at c.in_ok-on.on c.in_ok-on.args)
      (c.in_ok-wait.ensures.items ∙ ap (λ fs. fs.waiting.items ++ waits.Call new ∷ []) (sym frames)) c.in_ok-wait-2.ensures.items refl c.for_name-dispatch.ensures));
}
