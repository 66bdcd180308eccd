use Rattle.std.proofs.Common.{◌≡◌, Err, refl, sym, ap, subst}
use Rattle.std.proofs.Common.{false}
use Rattle.som_model.specs.Rules.{is_void}
use Rattle.som_values.specs.Shown.{key_of}
use Rattle.som_interp_loop.specs.Scene.{scene, setting_of}
use Rattle.som_interp_loop.proofs.Knowing.{closed_all}
use Rattle.som_interp_body.proofs.Varying.{acts, is_below, usable_top, set_comes, set_keeps, set_stops, place_numbered}
use Rattle.som_interp_body.proofs.variables.set_variable.Goals as goal

pub class_at-class-requires : goal.class_at-class-requires
class_at-class-requires g c =
    let r = c.args.runtime.now in
    let run = c.requires.running in
    place_numbered (setting_of (scene (g.R.Runtime.linked r) (g.R.ClassKeys.known r) (g.R.Runtime.program r) (g.R.Classes.made r) c.args.objects.now c.args.task.now run.0)) c.args.objects.now c.args.body.now.place run.1.2.next.own.place

pub assign-requires-clause-variable : goal.assign-requires-clause-variable
assign-requires-clause-variable g c =
    let r = c.args.runtime.now in
    let l = g.R.Runtime.linked r in
    let run = c.requires.running in
    let set = setting_of (scene l (g.R.ClassKeys.known r) (g.R.Runtime.program r) (g.R.Classes.made r) c.args.objects.now c.args.task.now run.0) in
    subst (λ k. is_void (l.world.variable k c.args.variable) ≡ false) (sym (c.class_at-class.ensures.key set c.args.body.now.me refl)) (run.1.2.next.fine.writes c.args.body.now.at c.args.variable (c.requires.is run.0))

pub assign-requires-clause-acts : goal.assign-requires-clause-acts
assign-requires-clause-acts g c =
    let r = c.args.runtime.now in
    let l = g.R.Runtime.linked r in
    let kn = g.R.ClassKeys.known r in
    let main = g.R.Runtime.program r in
    let made = g.R.Classes.made r in
    let os = c.args.objects.now in
    let t = c.args.task.now in
    let b = c.args.body.now in
    let run = c.requires.running in
    let set = setting_of (scene l kn main made os t run.0) in
    (t.serials, run.1.0, acts l kn main made os t run.0 b run.1.0 run.1.1 run.1.2, is_below l kn main made os t run.0 b run.1.0 run.1.1 (key_of l.keys c.class_at-class.result) (c.class_at-class.ensures.key set b.me refl) run.1.2)

pub returns-in-Ok-clause-comes : goal.returns-in-Ok-clause-comes
returns-in-Ok-clause-comes g c f =
    let r = c.args.runtime.now in
    let l = g.R.Runtime.linked r in
    let kn = g.R.ClassKeys.known r in
    let main = g.R.Runtime.program r in
    let made = g.R.Classes.made r in
    let os = c.args.objects.now in
    let t = c.args.task.now in
    let b = c.args.body.now in
    let u = record t { statics = c.assign.new.statics } in
    let known = c.know.ensures in
    let closed = closed_all (g.R.Classes.keys r) (g.R.Classes.world r) kn l known.agree main made known.loads known.closed in
    let set = setting_of (scene l kn main made os t f) in
    let key = c.class_at-class.ensures.key set b.me refl in
    set_comes l kn main made os c.assign.new.objects t u f b c.assign.ensures.keeps closed c.args.variable (c.requires.is f) (key_of l.keys c.class_at-class.result) c.pop-cell.result key c.pop-cell.ensures.cell
    c.in-Ok.field-0 _ (record { levels = refl; me = refl; place = refl; zero = refl; code = refl }) refl c.pop-cell.ensures.rest refl
    (λ h ws runs. c.in-Ok.ensures.means t.serials h (acts l kn main made os t f b h ws runs) (usable_top l kn main made os t f b h ws c.pop-cell.result c.pop-cell.ensures.cell runs))

pub returns-in-Ok-clause-keeps : goal.returns-in-Ok-clause-keeps
returns-in-Ok-clause-keeps g c f =
    let r = c.args.runtime.now in
    let l = g.R.Runtime.linked r in
    let kn = g.R.ClassKeys.known r in
    let main = g.R.Runtime.program r in
    let made = g.R.Classes.made r in
    let os = c.args.objects.now in
    let t = c.args.task.now in
    let b = c.args.body.now in
    let u = record t { statics = c.assign.new.statics } in
    let known = c.know.ensures in
    let closed = closed_all (g.R.Classes.keys r) (g.R.Classes.world r) kn l known.agree main made known.loads known.closed in
    let set = setting_of (scene l kn main made os t f) in
    let key = c.class_at-class.ensures.key set b.me refl in
    set_keeps l kn main made os c.assign.new.objects t u f b c.assign.ensures.keeps closed c.args.variable (c.requires.is f) c.requires.running.1.2.next.own.me c.assign.ensures.others c.assign.ensures.count

pub returns-in-Err-clause-comes : goal.returns-in-Err-clause-comes
returns-in-Err-clause-comes g c f =
    let r = c.args.runtime.now in
    let l = g.R.Runtime.linked r in
    let kn = g.R.ClassKeys.known r in
    let main = g.R.Runtime.program r in
    let made = g.R.Classes.made r in
    let os = c.args.objects.now in
    let t = c.args.task.now in
    let b = c.args.body.now in
    let u = record t { statics = c.assign.new.statics } in
    let known = c.know.ensures in
    let closed = closed_all (g.R.Classes.keys r) (g.R.Classes.world r) kn l known.agree main made known.loads known.closed in
    let set = setting_of (scene l kn main made os t f) in
    let key = c.class_at-class.ensures.key set b.me refl in
    set_stops l kn main made os c.assign.new.objects t u f b c.assign.ensures.keeps closed c.args.variable (c.requires.is f) (key_of l.keys c.class_at-class.result) c.pop-cell.result key c.pop-cell.ensures.cell
    c.in-Err.stopped (Err c.stop.result) b (ap (λ e. Err e) c.stop.ensures.value) (λ h holding. c.in-Err.ensures.held t.serials h holding)
    (λ h ws runs. c.in-Err.ensures.means t.serials h (acts l kn main made os t f b h ws runs) (usable_top l kn main made os t f b h ws c.pop-cell.result c.pop-cell.ensures.cell runs))

pub returns-in-Err-clause-keeps : goal.returns-in-Err-clause-keeps
returns-in-Err-clause-keeps g c f =
    let r = c.args.runtime.now in
    let l = g.R.Runtime.linked r in
    let kn = g.R.ClassKeys.known r in
    let main = g.R.Runtime.program r in
    let made = g.R.Classes.made r in
    let os = c.args.objects.now in
    let t = c.args.task.now in
    let b = c.args.body.now in
    let u = record t { statics = c.assign.new.statics } in
    let known = c.know.ensures in
    let closed = closed_all (g.R.Classes.keys r) (g.R.Classes.world r) kn l known.agree main made known.loads known.closed in
    let set = setting_of (scene l kn main made os t f) in
    let key = c.class_at-class.ensures.key set b.me refl in
    set_keeps l kn main made os c.assign.new.objects t u f b c.assign.ensures.keeps closed c.args.variable (c.requires.is f) c.requires.running.1.2.next.own.me c.assign.ensures.others c.assign.ensures.count
