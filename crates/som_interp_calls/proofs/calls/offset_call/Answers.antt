use Rattle.std.proofs.Common.{[], ◌∷◌, ◌++◌, Err, sym, ap, subst, ◌∙◌}
use Rattle.std.proofs.lemmas.Result.{err_from_is_err_and}
use Rattle.som_code_cache.specs.Coded.{codes_of}
use Rattle.som_interp_state.specs.declared.frames.Waiting.TheVariants as waits
use Rattle.som_interp_loop.specs.Scene.{scene}
use Rattle.som_interp_calls.specs.Calling.{ComesTo}
use Rattle.som_interp_calls.proofs.Offset.{call_goes, call_stops, have_owner, offset_test, offset_tested}
use Rattle.som_interp_calls.proofs.calls.offset_call.Goals as goal

pub test_offset-requires : goal.test_offset-requires
test_offset-requires g c =
    let r = c.args.runtime.now in
    have_owner (g.R.Runtime.linked r) (g.R.Classes.made r) c.args.objects.now c.args.body.operands.items c.args.count c.in_ok-on.on c.in_ok-on.args.items c.in_ok-on.ensures.receiver c.in_ok-on.ensures.args c.requires.owner

pub returns-in_err-call : goal.returns-in_err-call
returns-in_err-call g c = record {
  comes = λ t f m frames owner is. (
      let r = c.args.runtime.now in
      let l = g.R.Runtime.linked r in
      let p = err_from_is_err_and c.from_residual-in_err-call.result c.from_residual-in_err-call.ensures.1 in
      subst (λ z. ComesTo (scene l (g.R.ClassKeys.known r) (g.R.Runtime.program r) (g.R.Classes.made r) c.args.objects.now t f) (scene l (g.R.ClassKeys.known r) (g.R.Runtime.program r) (g.R.Classes.made r) c.args.objects.now (record t { frames = c.args.frames.now }) f) c.args.body z []) (sym (p.1 ∙ ap (λ e. Err e) p.2))
      (call_stops l (g.R.ClassKeys.known r) (g.R.Runtime.program r) (g.R.Classes.made r) c.args.objects.now t c.args.frames.now f c.args.body c.args.count (offset_test l m) (offset_tested l (g.R.ClassKeys.known r) (g.R.Runtime.program r) (g.R.Classes.made r) c.args.objects.now t c.args.frames.now f c.args.body m c.args.count is) c.in_ok-on.on c.in_ok-on.ensures.receiver c.in_ok-on.args.items c.in_ok-on.ensures.args
      c.take_call.new.body c.in_ok-on.ensures.same c.in_ok-on.ensures.rest c.in_err-call.field-0.0
      (λ h holds seen all. c.in_err-call.ensures.passes t.serials (codes_of t.codes) h m owner holds seen)));
}

pub returns : goal.returns
returns g c = record {
  comes = λ t f m frames owner is. (
      let r = c.args.runtime.now in
      let l = g.R.Runtime.linked r in
      let of = c.in_ok-call.ensures in
      call_goes l (g.R.ClassKeys.known r) (g.R.Runtime.program r) (g.R.Classes.made r) c.args.objects.now t c.wait.new.frames f c.args.body c.args.count (offset_test l m) (offset_tested l (g.R.ClassKeys.known r) (g.R.Runtime.program r) (g.R.Classes.made r) c.args.objects.now t c.wait.new.frames f c.args.body m c.args.count is) c.in_ok-on.on c.in_ok-on.ensures.receiver c.in_ok-on.args.items c.in_ok-on.ensures.args
      c.take_call.new.body c.in_ok-on.ensures.same c.in_ok-on.ensures.rest c.in_ok-call.call
      (λ h holds seen all. of.passes t.serials (codes_of t.codes) h m owner holds seen) (λ place on args. of.usable t.serials (codes_of t.codes) place c.requires.token on args) of.live
      (c.in_ok-wait.ensures.items ∙ ap (λ fs. fs.waiting.items ++ waits.Call c.take_call.new.body ∷ []) (sym frames)));
}
