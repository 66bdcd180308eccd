use Rattle.std.proofs.Common.{Err, ap, sym, subst, ◌∙◌}
use Rattle.som_code_cache.specs.Coded.{codes_of}
use Rattle.som_trace.specs.declared.running.Place.TheVariants as places
use Rattle.som_trace.specs.declared.manner.Manner.TheVariants as ways
use Rattle.som_interp_state.specs.Own.{IsOwnPlace}
use Rattle.som_interp_loop.specs.Scene.{Scene, scene, setting_of}
use Rattle.som_interp_invoke.specs.Beginning.{Began, call_at, stopped_at}
use Rattle.som_interp_invoke.proofs.Asked.{acts}
use Rattle.som_interp_invoke.proofs.Called.{not_forwarded, offset_at, own_method, was_forwarded}
use Rattle.som_interp_invoke.proofs.forwarding.begin_forwarding.Goals as goal

pub signature-signature-requires : goal.signature-signature-requires
signature-signature-requires g c = (c.know.ensures.agree.tokens c.args.begun.method).0 c.requires.can.1.4.begun.method

pub returns-in-Err : goal.returns-in-Err
returns-in-Err g c t f =
    let r = c.args.runtime.now in
    let here : Scene = scene (g.R.Runtime.linked r) (g.R.ClassKeys.known r) (g.R.Runtime.program r) (g.R.Classes.made r) c.args.objects.now t f in
    let b = c.args.begun in
    let args = c.args.args.items in
    subst (λ z. Began here here b c.args.levels c.args.me args (Err z)) (sym (c.stop_at.ensures ∙ ap (λ p. stopped_at p c.in-Err.stopped) c.place_of.ensures))
    (not_forwarded here b c.requires.what c.args.levels c.args.me args c.in-Err.stopped (λ body ws s began. c.in-Err.ensures.means t.statics.items t.serials s.heap (acts here b c.args.me args body ws s.heap began)))

pub pass_offset-call-requires : goal.pass_offset-call-requires
pass_offset-call-requires g c =
    let r = c.args.runtime.now in
    let t = c.requires.can.0 in
    let can = c.requires.can.1 in
    let here : Scene = scene (g.R.Runtime.linked r) (g.R.ClassKeys.known r) (g.R.Runtime.program r) (g.R.Classes.made r) c.args.objects.now t can.0 in
    let a = acts here c.args.begun c.args.me c.args.args.items can.3 can.2 can.1 can.4 in
    (record { serials = t.serials; statics = t.statics.items; heap = can.1; holding = a.holding }, c.in-Ok.ensures.usable t.statics.items t.serials can.1 a, can.4.arguments)

pub returns : goal.returns
returns g c t f =
    let r = c.args.runtime.now in
    let l = g.R.Runtime.linked r in
    let here : Scene = scene l (g.R.ClassKeys.known r) (g.R.Runtime.program r) (g.R.Classes.made r) c.args.objects.now t f in
    let b = c.args.begun in
    let args = c.args.args.items in
    let at = places.Body b.class b.method in
    let call = c.pass_offset-call.result in
    let own = own_method (g.R.Classes.keys r) (g.R.Classes.world r) (g.R.ClassKeys.known r) l (g.R.Runtime.program r) c.know.ensures.agree c.know.ensures.loads (l.method b.method) c.signature-signature.result.now c.signature-signature.ensures in
    subst (λ z. Began here here b c.args.levels c.args.me args z) (sym (c.called.ensures ∙ ap (λ p. call_at c.args.levels p call) c.place_of-2.ensures))
    (was_forwarded here b c.requires.what c.args.levels c.args.me args c.in-Ok.on call c.pass_offset-call.ensures.live (λ body ws s began.
    (let a = acts here b c.args.me args body ws s.heap began in
    let usable = c.in-Ok.ensures.usable t.statics.items t.serials s.heap a in (
      c.in-Ok.ensures.means t.statics.items t.serials s.heap a,
      offset_at l c.args.objects.now c.place_of-at.result at c.place_of-at.ensures call ways.Forward b.method c.in-Ok.on args c.pass_offset-call.ensures.passes t.serials (codes_of t.codes) s.heap (l.method b.method) own began.around.holding.heap.holds usable.own.0,
      c.pass_offset-call.ensures.usable t.serials (codes_of t.codes) (subst (IsOwnPlace (setting_of here) c.args.objects.now) (sym c.place_of-at.ensures) (began.begun.class, began.begun.method)) began.begun.method usable began.arguments,
    ))))
