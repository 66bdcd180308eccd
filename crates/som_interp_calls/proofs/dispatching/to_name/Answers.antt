use Rattle.std.proofs.Common.{None, Err, sym, ap, subst, ◌∙◌}
use Rattle.std.proofs.lemmas.Result.{err_from_is_err_and}
use Rattle.som_code_cache.specs.Coded.{codes_of}
use Rattle.som_trace.specs.declared.running.Place.TheVariants as places
use Rattle.som_interp_state.specs.declared.body.Zero.TheVariants as zeros
use Rattle.som_interp_state.specs.declared.frames.Waiting.TheVariants as waits
use Rattle.som_values.specs.Shown.{showing}
use Rattle.som_interp_loop.specs.Scene.{scene}
use Rattle.som_interp_calls.specs.Answering.{Resumes}
use Rattle.som_interp_calls.proofs.Dispatches.{name_goes, name_owner, name_stops}
use Rattle.som_interp_calls.proofs.dispatching.to_name.Goals as goal

pub test_dispatched-requires : goal.test_dispatched-requires
test_dispatched-requires g c =
    let r = c.args.runtime.now in
    let met = c.requires in
    let s = scene (g.R.Runtime.linked r) (g.R.ClassKeys.known r) (g.R.Runtime.program r) (g.R.Classes.made r) c.args.objects.now c.args.task.now met.0 in
    name_owner s c.args.levels c.args.from c.args.code c.args.at c.args.on (record { levels = 0; me = None; place = places.Main; zero = zeros.Nil; code = 0; at = 0; operands = c.args.args; locals = c.args.args }) c.args.value c.in_ok-name.name (c.in_ok-name.ensures (showing (g.R.Runtime.linked r).keys c.args.task.now.serials))
    met.1.0 met.1.1 met.1.2

pub returns-in_err-call-clause-resumes : goal.returns-in_err-call-clause-resumes
returns-in_err-call-clause-resumes g c f =
    let r = c.args.runtime.now in
    let l = g.R.Runtime.linked r in
    let t = c.args.task.now in
    let s = scene l (g.R.ClassKeys.known r) (g.R.Runtime.program r) (g.R.Classes.made r) c.args.objects.now t f in
    let p = err_from_is_err_and c.from_residual-in_err-call.result c.from_residual-in_err-call.ensures.1 in
    subst (λ z. Resumes s s (waits.Name c.args.levels c.args.from c.args.code c.args.at c.args.on c.args.args) c.args.value z) (sym (p.1 ∙ ap (λ e. Err e) p.2))
    (name_stops s c.args.levels c.args.from c.args.code c.args.at c.args.on (record { levels = 0; me = None; place = places.Main; zero = zeros.Nil; code = 0; at = 0; operands = c.args.args; locals = c.args.args }) c.args.value c.in_ok-name.name (c.in_ok-name.ensures (showing l.keys t.serials))
    c.in_err-call.field-0.0 (λ h holds seen all. c.in_err-call.ensures.passes t.serials (codes_of t.codes) h holds seen all))

pub returns-clause-resumes : goal.returns-clause-resumes
returns-clause-resumes g c f =
    let r = c.args.runtime.now in
    let l = g.R.Runtime.linked r in
    let t = c.args.task.now in
    let of = c.in_ok-call.ensures in
    name_goes (scene l (g.R.ClassKeys.known r) (g.R.Runtime.program r) (g.R.Classes.made r) c.args.objects.now t f) c.args.levels c.args.from c.args.code c.args.at c.args.on (record { levels = 0; me = None; place = places.Main; zero = zeros.Nil; code = 0; at = 0; operands = c.args.args; locals = c.args.args }) c.args.value c.in_ok-name.name (c.in_ok-name.ensures (showing l.keys t.serials))
    c.in_ok-call.call (λ h holds seen all. of.passes t.serials (codes_of t.codes) h holds seen all) (λ place on args. of.usable t.serials (codes_of t.codes) place on args) of.live
