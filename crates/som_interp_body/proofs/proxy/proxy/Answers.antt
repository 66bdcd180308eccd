use Rattle.std.proofs.Common.{Err, refl}
use Rattle.som_interp_state.specs.Settings.{shows}
use Rattle.som_interp_loop.specs.Scene.{scene, setting_of}
use Rattle.som_interp_loop.specs.declared.stop.Stop.TheVariants as stops
use Rattle.som_interp_body.proofs.Varying.{top_own}
use Rattle.som_interp_body.proofs.Whole.{keeps_still, quietly}
use Rattle.som_interp_body.proofs.Building.{proxy_fails, proxy_spent}
use Rattle.som_interp_body.proofs.proxy.proxy.Goals as goal

pub callable-requires : goal.callable-requires
callable-requires g c =
    let r = c.args.runtime.now in
    let l = g.R.Runtime.linked r in
    let kn = g.R.ClassKeys.known r in
    let main = g.R.Runtime.program r in
    let made = g.R.Classes.made r in
    let os = c.args.objects.now in
    let t = c.args.task.now in
    let f = c.args.fuel.now in
    let b = c.args.body.now in
    let k = c.requires.is.0 in
    let was = scene l kn main made os t f in
    (top_own l kn main made os t f b c.requires.running.0 c.requires.running.1 c.requires.running.2).1

pub returns-in-Err-clause-obeyed : goal.returns-in-Err-clause-obeyed
returns-in-Err-clause-obeyed g c prefix w =
    let r = c.args.runtime.now in
    let l = g.R.Runtime.linked r in
    let kn = g.R.ClassKeys.known r in
    let main = g.R.Runtime.program r in
    let made = g.R.Classes.made r in
    let os = c.args.objects.now in
    let t = c.args.task.now in
    let f = c.args.fuel.now in
    let b = c.args.body.now in
    let k = c.requires.is.0 in
    let was = scene l kn main made os t f in
    quietly prefix w was was b (Err (stops.Fault c.in-Err.fault b.place)) refl (proxy_fails l kn main made os t f b k c.requires.is.2 c.in-Err.fault (λ h ws runs. c.in-Err.ensures (shows (setting_of was)) h runs.around.holding.heap.holds (top_own l kn main made os t f b h ws runs).0))

pub returns-in-Err-clause-keeps : goal.returns-in-Err-clause-keeps
returns-in-Err-clause-keeps g c =
    let r = c.args.runtime.now in
    let l = g.R.Runtime.linked r in
    let kn = g.R.ClassKeys.known r in
    let main = g.R.Runtime.program r in
    let made = g.R.Classes.made r in
    let os = c.args.objects.now in
    let t = c.args.task.now in
    let f = c.args.fuel.now in
    let b = c.args.body.now in
    let k = c.requires.is.0 in
    let was = scene l kn main made os t f in
    keeps_still l l kn kn main main made made os t t f f refl refl refl refl refl refl refl

pub returns-then-fuel-eq0-clause-obeyed : goal.returns-then-fuel-eq0-clause-obeyed
returns-then-fuel-eq0-clause-obeyed g c prefix w =
    let r = c.args.runtime.now in
    let l = g.R.Runtime.linked r in
    let kn = g.R.ClassKeys.known r in
    let main = g.R.Runtime.program r in
    let made = g.R.Classes.made r in
    let os = c.args.objects.now in
    let t = c.args.task.now in
    let f = c.args.fuel.now in
    let b = c.args.body.now in
    let k = c.requires.is.0 in
    let was = scene l kn main made os t f in
    quietly prefix w was was b (Err stops.Spent) refl (proxy_spent l kn main made os t f b k c.requires.is.2 c.if-fuel-eq0.true (λ h ws runs. c.in-Ok.ensures (shows (setting_of was)) h runs.around.holding.heap.holds (top_own l kn main made os t f b h ws runs).0))

pub returns-then-fuel-eq0-clause-keeps : goal.returns-then-fuel-eq0-clause-keeps
returns-then-fuel-eq0-clause-keeps g c =
    let r = c.args.runtime.now in
    let l = g.R.Runtime.linked r in
    let kn = g.R.ClassKeys.known r in
    let main = g.R.Runtime.program r in
    let made = g.R.Classes.made r in
    let os = c.args.objects.now in
    let t = c.args.task.now in
    let f = c.args.fuel.now in
    let b = c.args.body.now in
    let k = c.requires.is.0 in
    let was = scene l kn main made os t f in
    keeps_still l l kn kn main main made made os t t f f refl refl refl refl refl refl refl

pub build-requires-clause-callable : goal.build-requires-clause-callable
build-requires-clause-callable g c h ws runs =
    let r = c.args.runtime.now in
    let l = g.R.Runtime.linked r in
    let kn = g.R.ClassKeys.known r in
    let main = g.R.Runtime.program r in
    let made = g.R.Classes.made r in
    let os = c.args.objects.now in
    let t = c.args.task.now in
    let f = c.args.fuel.now in
    let b = c.args.body.now in
    let k = c.requires.is.0 in
    let was = scene l kn main made os t f in
    c.in-Ok.ensures (shows (setting_of was)) h runs.around.holding.heap.holds (top_own l kn main made os t f b h ws runs).0
