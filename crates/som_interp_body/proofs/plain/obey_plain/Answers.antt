use Rattle.std.proofs.Common.{Ok, Err, refl, ap}
use Rattle.som_interp_loop.specs.Scene.{scene, setting_of}
use Rattle.som_interp_body.specs.declared.outcome.Outcome.TheVariants as outcomes
use Rattle.som_interp_loop.proofs.Knowing.{closed_all}
use Rattle.som_interp_body.proofs.Knowing.{has_classes}
use Rattle.som_interp_body.proofs.Acts.{plain_no_call}
use Rattle.som_interp_body.proofs.Coming.{plain_comes}
use Rattle.som_interp_body.proofs.plain.obey_plain.Goals as goal

pub returns-in-Ok-clause-comes : goal.returns-in-Ok-clause-comes
returns-in-Ok-clause-comes g c t f is =
    let ks = g.R.Classes.keys c.args.runtime.now in
    let w = g.R.Classes.world c.args.runtime.now in
    let k = g.R.ClassKeys.known c.args.runtime.now in
    let l = g.R.Runtime.linked c.args.runtime.now in
    let made = g.R.Classes.made c.args.runtime.now in
    let known = c.know.ensures in
    let main = g.R.Runtime.program c.args.runtime.now in
    let s = setting_of (scene l k main made c.args.objects.now t f) in
    plain_comes l k main made c.args.objects.now t f (closed_all ks w k l known.agree (g.R.Runtime.program c.args.runtime.now) made known.loads known.closed) c.args.body.now c.plainly.new.body c.args.instruction.now is (plain_no_call c.args.instruction.now c.requires.kind)
    (Ok c.in-Ok.field-0) (Ok outcomes.GoesOn) refl (λ h own heap. c.in-Ok.ensures.did s h (has_classes ks w k l known.agree) known.agree.linked.apart own heap) (λ own. c.in-Ok.ensures.own s own)

pub returns-in-Err-clause-comes : goal.returns-in-Err-clause-comes
returns-in-Err-clause-comes g c t f is =
    let ks = g.R.Classes.keys c.args.runtime.now in
    let w = g.R.Classes.world c.args.runtime.now in
    let k = g.R.ClassKeys.known c.args.runtime.now in
    let l = g.R.Runtime.linked c.args.runtime.now in
    let made = g.R.Classes.made c.args.runtime.now in
    let known = c.know.ensures in
    let main = g.R.Runtime.program c.args.runtime.now in
    let s = setting_of (scene l k main made c.args.objects.now t f) in
    plain_comes l k main made c.args.objects.now t f (closed_all ks w k l known.agree (g.R.Runtime.program c.args.runtime.now) made known.loads known.closed) c.args.body.now c.plainly.new.body c.args.instruction.now is (plain_no_call c.args.instruction.now c.requires.kind)
    (Err c.in-Err.stopped) (Err c.stop.result) (ap (λ e. Err e) c.stop.ensures.value) (λ h own heap. c.in-Err.ensures.did s h (has_classes ks w k l known.agree) known.agree.linked.apart own heap) (λ own. c.in-Err.ensures.own s own)
