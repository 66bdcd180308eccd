use Rattle.std.proofs.Common.{◌≡◌, Some, sym, subst}
use Rattle.som_semantics.specs.World.{World}
use Rattle.som_trace.specs.declared.running.Place.TheVariants as places
use Rattle.som_interp_loop.specs.Scene.{Scene, scene}
use Rattle.som_interp_invoke.proofs.Coded.{agree_linked, coded}
use Rattle.som_interp_invoke.proofs.coding.begin_code.Goals as goal

pub returns : goal.returns
returns g c os t f =
    let l = g.R.Runtime.linked c.args.runtime.now in
    let k = g.R.ClassKeys.known c.args.runtime.now in
    let here : Scene = scene l k (g.R.Runtime.program c.args.runtime.now) (g.R.Classes.made c.args.runtime.now) os t f in
    let agree = c.know.ensures.agree in
    coded here (agree_linked (g.R.Classes.keys c.args.runtime.now) (g.R.Classes.world c.args.runtime.now) k l agree) c.know.ensures.loads c.args.begun c.args.code c.requires.what c.signature.result.now
    (subst (λ (w : World). w.sig (l.method c.args.begun.method) ≡ Some c.signature.result.now) (sym agree.linked_answers) c.signature.ensures) c.args.me
    (record { levels = c.args.levels; me = Some c.args.me; place = places.Body c.args.begun.class c.args.begun.method; zero = c.zero_of-zero.result; code = c.args.code; at = 0; operands = c.new.result; locals = c.args.args })
    c.zero_of-zero.ensures c.new.ensures.items
