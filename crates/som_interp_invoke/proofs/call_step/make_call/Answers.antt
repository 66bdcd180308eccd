use Rattle.std.proofs.Common.{sym}
use Rattle.som_code_cache.specs.Coded.{codes_of}
use Rattle.som_interp_invoke.proofs.Entering.{asked, refused, stopped, entered, owner, usable}
use Rattle.som_interp_loop.proofs.Knowing.{closed_all}
use Rattle.som_interp_invoke.proofs.call_step.make_call.Goals as goal

pub has_method-requires : goal.has_method-requires
has_method-requires g c =
    let r = c.args.runtime.now in
    let x = c.requires.standing in
    asked (g.R.Runtime.linked r) (g.R.ClassKeys.known r) (g.R.Runtime.program r) (g.R.Classes.made r) c.args.objects.now x.0 x.1 c.args.levels c.args.call x.2.0 x.2.1 x.2.2 x.2.3

pub returns-then-not-has_method : goal.returns-then-not-has_method
returns-then-not-has_method g c t f =
    let r = c.args.runtime.now in
    refused (g.R.Runtime.linked r) (g.R.ClassKeys.known r) (g.R.Runtime.program r) (g.R.Classes.made r) c.args.objects.now t f c.args.levels c.args.call
    (λ h ws n stands. sym (c.if-not-has_method.ensures t.serials (codes_of t.codes) h stands.around.holding.heap.holds stands.next.own.me.0))

pub enter-requires-clause-asked : goal.enter-requires-clause-asked
enter-requires-clause-asked g c =
    let r = c.args.runtime.now in
    let x = c.requires.standing in
    asked (g.R.Runtime.linked r) (g.R.ClassKeys.known r) (g.R.Runtime.program r) (g.R.Classes.made r) c.args.objects.now x.0 x.1 c.args.levels c.args.call x.2.0 x.2.1 x.2.2 x.2.3

pub enter-requires-clause-live : goal.enter-requires-clause-live
enter-requires-clause-live g c = c.requires.standing.2.3.next.fine

pub returns-in-Ok : goal.returns-in-Ok
returns-in-Ok g c t f =
    let r = c.args.runtime.now in
    let l = g.R.Runtime.linked r in
    let kn = g.R.ClassKeys.known r in
    let main = g.R.Runtime.program r in
    let made = g.R.Classes.made r in
    let os = c.args.objects.now in
    let known = c.know.ensures in
    let done = c.in-Ok.ensures in
    entered l kn main made os t f c.args.levels c.args.call
    (λ h ws n stands. sym (c.if-not-has_method.ensures t.serials (codes_of t.codes) h stands.around.holding.heap.holds stands.next.own.me.0))
    (closed_all (g.R.Classes.keys r) (g.R.Classes.world r) kn l known.agree main made known.loads known.closed)
    c.in-Ok.left done.left.0 done.class
    (λ h ws n stands. done.ready (owner l kn main made os t f c.args.levels c.args.call h ws n stands) (codes_of t.codes) (usable l kn main made os t f c.args.levels c.args.call h ws n stands)
    (sym (c.if-not-has_method.ensures t.serials (codes_of t.codes) h stands.around.holding.heap.holds stands.next.own.me.0)))
    (λ h ws n stands. done.enters t.serials (codes_of t.codes) h stands.around.holding.heap.holds stands.next.own.me.0)

pub returns-in-Err : goal.returns-in-Err
returns-in-Err g c t f =
    let r = c.args.runtime.now in
    stopped (g.R.Runtime.linked r) (g.R.ClassKeys.known r) (g.R.Runtime.program r) (g.R.Classes.made r) c.args.objects.now t f c.args.levels c.args.call
    (λ h ws n stands. sym (c.if-not-has_method.ensures t.serials (codes_of t.codes) h stands.around.holding.heap.holds stands.next.own.me.0))
    c.in-Err.fault
    (λ h ws n stands. c.in-Err.ensures.enters t.serials (codes_of t.codes) h stands.around.holding.heap.holds stands.next.own.me.0)
