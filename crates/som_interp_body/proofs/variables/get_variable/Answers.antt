use Rattle.std.proofs.Common.{inr, [], Ok, Err, refl, ap, subst}
use Rattle.std.proofs.lemmas.Result.{err_from_is_err_and}
use Rattle.som_semantics.specs.Expressions.{read}
use Rattle.som_values.specs.Answers.{Answers}
use Rattle.som_interp_state.specs.Settings.{shows}
use Rattle.som_interp_state.specs.Standing.{me_shown}
use Rattle.som_values.specs.Shown.{key_of}
use Rattle.som_interp_loop.specs.Scene.{scene, setting_of}
use Rattle.som_interp_loop.specs.NextInstruction.{act_of}
use Rattle.som_interp_loop.proofs.Knowing.{closed_all}
use Rattle.som_interp_body.proofs.Coming.{begins_nothing}
use Rattle.som_interp_body.proofs.Special.{wants_comes}
use Rattle.som_interp_body.proofs.Varying.{acts, get_comes, get_stops, me_same, place_numbered}
use Rattle.som_interp_body.proofs.variables.get_variable.Goals as goal

pub class_at-class-requires : goal.class_at-class-requires
class_at-class-requires g c =
    let r = c.args.runtime.now in
    let run = c.requires.running in
    place_numbered (setting_of (scene (g.R.Runtime.linked r) (g.R.ClassKeys.known r) (g.R.Runtime.program r) (g.R.Classes.made r) c.args.objects.now c.args.task.now run.0)) c.args.objects.now c.args.body.now.place run.1.2.next.own.place

pub read-requires-clause-acts : goal.read-requires-clause-acts
read-requires-clause-acts g c =
    let r = c.args.runtime.now in
    let run = c.requires.running in
    (c.args.task.now.serials, run.1.0, acts (g.R.Runtime.linked r) (g.R.ClassKeys.known r) (g.R.Runtime.program r) (g.R.Classes.made r) c.args.objects.now c.args.task.now run.0 c.args.body.now run.1.0 run.1.1 run.1.2)

pub returns-in_err-push-in-Ok-clause-comes : goal.returns-in_err-push-in-Ok-clause-comes
returns-in_err-push-in-Ok-clause-comes g c f is =
    let p = err_from_is_err_and c.from_residual.result c.from_residual.ensures.1 in
    let r = c.args.runtime.now in
    let here = scene (g.R.Runtime.linked r) (g.R.ClassKeys.known r) (g.R.Runtime.program r) (g.R.Classes.made r) c.args.objects.now c.args.task.now f in
    wants_comes here here c.args.body.now _ p.0 c.from_residual.result [] (inr p.2) p.1 (λ ws s runs fuel. begins_nothing (act_of here c.args.body.now ws) s)

pub returns-in_ok-push-in-Ok-clause-comes : goal.returns-in_ok-push-in-Ok-clause-comes
returns-in_ok-push-in-Ok-clause-comes g c f is =
    let r = c.args.runtime.now in
    let l = g.R.Runtime.linked r in
    let kn = g.R.ClassKeys.known r in
    let main = g.R.Runtime.program r in
    let made = g.R.Classes.made r in
    let os = c.args.objects.now in
    let t = c.args.task.now in
    let b = c.args.body.now in
    let known = c.know.ensures in
    let set = setting_of (scene l kn main made os t f) in
    get_comes l kn main made os t f b (closed_all (g.R.Classes.keys r) (g.R.Classes.world r) kn l known.agree main made known.loads known.closed) c.args.variable is c.in-Ok.cell _
    (record { levels = refl; me = refl; place = refl; zero = refl; code = refl }) refl c.in_ok-push-in-Ok.ensures refl
    (λ h ws runs. subst (λ k. Answers (shows set) (Ok c.in-Ok.cell) (read k c.args.variable (me_shown set b.me) h)) (c.class_at-class.ensures.key set b.me refl)
    (subst (λ v. Answers (shows set) (Ok c.in-Ok.cell) (read (key_of l.keys c.class_at-class.result) c.args.variable v h)) (me_same set b.me) (c.in-Ok.ensures.means t.serials h (acts l kn main made os t f b h ws runs))))
    (λ h ws runs. c.in-Ok.ensures.usable t.serials h (acts l kn main made os t f b h ws runs))

pub returns-in-Err-clause-comes : goal.returns-in-Err-clause-comes
returns-in-Err-clause-comes g c f is =
    let r = c.args.runtime.now in
    let l = g.R.Runtime.linked r in
    let kn = g.R.ClassKeys.known r in
    let main = g.R.Runtime.program r in
    let made = g.R.Classes.made r in
    let os = c.args.objects.now in
    let t = c.args.task.now in
    let b = c.args.body.now in
    let known = c.know.ensures in
    let set = setting_of (scene l kn main made os t f) in
    get_stops l kn main made os t f b (closed_all (g.R.Classes.keys r) (g.R.Classes.world r) kn l known.agree main made known.loads known.closed) c.args.variable is c.in-Err.stopped (Err c.stop.result) b (ap (λ e. Err e) c.stop.ensures.value)
    (λ h ws runs. subst (λ k. Answers (shows set) (Err c.in-Err.stopped) (read k c.args.variable (me_shown set b.me) h)) (c.class_at-class.ensures.key set b.me refl)
    (subst (λ v. Answers (shows set) (Err c.in-Err.stopped) (read (key_of l.keys c.class_at-class.result) c.args.variable v h)) (me_same set b.me) (c.in-Err.ensures.means t.serials h (acts l kn main made os t f b h ws runs))))
