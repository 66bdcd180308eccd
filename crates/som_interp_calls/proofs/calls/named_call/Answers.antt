use Rattle.std.proofs.Common.{[], ◌∷◌, ◌++◌, Err, sym, ap, subst, ◌∙◌}
use Rattle.std.proofs.lemmas.Result.{err_from_is_err_and}
use Rattle.som_code_cache.specs.Coded.{codes_of}
use Rattle.som_interp_state.specs.declared.frames.Waiting.TheVariants as waits
use Rattle.som_interp_loop.specs.Scene.{scene}
use Rattle.som_interp_calls.specs.Calling.{ComesTo}
use Rattle.som_interp_calls.proofs.Offset.{call_goes, call_stops, have_owner, named_test, named_tested}
use Rattle.som_interp_calls.proofs.calls.named_call.Goals as goal

pub test_named-requires : goal.test_named-requires
test_named-requires g c =
    let r = c.args.runtime.now in
    have_owner (g.R.Runtime.linked r) (g.R.Classes.made r) c.args.objects.now c.args.body.operands.items c.args.count c.in_ok-on.on c.in_ok-on.args.items c.in_ok-on.ensures.receiver c.in_ok-on.ensures.args c.requires.owner

pub returns-in_err-call-clause-comes : goal.returns-in_err-call-clause-comes
returns-in_err-call-clause-comes g c t f frames is =
    let r = c.args.runtime.now in
    let l = g.R.Runtime.linked r in
    let p = err_from_is_err_and c.from_residual-in_err-call.result c.from_residual-in_err-call.ensures.1 in
    subst (λ z. ComesTo (scene l (g.R.ClassKeys.known r) (g.R.Runtime.program r) (g.R.Classes.made r) c.args.objects.now t f) (scene l (g.R.ClassKeys.known r) (g.R.Runtime.program r) (g.R.Classes.made r) c.args.objects.now (record t { frames = c.args.frames.now }) f) c.args.body z []) (sym (p.1 ∙ ap (λ e. Err e) p.2))
    (call_stops l (g.R.ClassKeys.known r) (g.R.Runtime.program r) (g.R.Classes.made r) c.args.objects.now t c.args.frames.now f c.args.body c.args.count (named_test l c.args.wanted.now c.args.name.now) (named_tested l (g.R.ClassKeys.known r) (g.R.Runtime.program r) (g.R.Classes.made r) c.args.objects.now t c.args.frames.now f c.args.body c.args.wanted.now c.args.name.now c.args.count is) c.in_ok-on.on c.in_ok-on.ensures.receiver c.in_ok-on.args.items c.in_ok-on.ensures.args
    c.take_call.new.body c.in_ok-on.ensures.same c.in_ok-on.ensures.rest c.in_err-call.field-0.0
    (λ h holds seen all. c.in_err-call.ensures.passes t.serials (codes_of t.codes) h holds seen all))

pub returns-clause-comes : goal.returns-clause-comes
returns-clause-comes g c t f frames is =
    let r = c.args.runtime.now in
    let l = g.R.Runtime.linked r in
    let of = c.in_ok-call.ensures in
    call_goes l (g.R.ClassKeys.known r) (g.R.Runtime.program r) (g.R.Classes.made r) c.args.objects.now t c.wait.new.frames f c.args.body c.args.count (named_test l c.args.wanted.now c.args.name.now) (named_tested l (g.R.ClassKeys.known r) (g.R.Runtime.program r) (g.R.Classes.made r) c.args.objects.now t c.wait.new.frames f c.args.body c.args.wanted.now c.args.name.now c.args.count is) c.in_ok-on.on c.in_ok-on.ensures.receiver c.in_ok-on.args.items c.in_ok-on.ensures.args
    c.take_call.new.body c.in_ok-on.ensures.same c.in_ok-on.ensures.rest c.in_ok-call.call
    (λ h holds seen all. of.passes t.serials (codes_of t.codes) h holds seen all) (λ place on args. of.usable t.serials (codes_of t.codes) place on args) of.live
    (c.in_ok-wait.ensures.items ∙ ap (λ fs. fs.waiting.items ++ waits.Call c.take_call.new.body ∷ []) (sym frames))
