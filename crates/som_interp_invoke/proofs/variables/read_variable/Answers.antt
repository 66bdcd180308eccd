use Rattle.som_interp_loop.specs.Scene.{Scene, scene}
use Rattle.som_interp_invoke.proofs.Asked.{acts, was_read}
use Rattle.som_interp_invoke.proofs.variables.read_variable.Goals as goal

pub read-requires-clause-class : goal.read-requires-clause-class
read-requires-clause-class g c = c.requires.can.2.4.begun.class

pub read-requires-clause-acts : goal.read-requires-clause-acts
read-requires-clause-acts g c =
    let fr = c.requires.can.0 in
    let args = c.requires.can.1 in
    let can = c.requires.can.2 in
    let r = c.args.runtime.now in
    let t = record c.args.task.now { frames = fr } in
    (t.serials, can.1, acts (scene (g.R.Runtime.linked r) (g.R.ClassKeys.known r) (g.R.Runtime.program r) (g.R.Classes.made r) c.args.objects.now t can.0) c.args.begun.now c.args.me args can.3 can.2 can.1 can.4)

pub returns : goal.returns
returns g c fr f levels args =
    let r = c.args.runtime.now in
    let t = record c.args.task.now { frames = fr } in
    let b = c.args.begun.now in
    let here : Scene = scene (g.R.Runtime.linked r) (g.R.ClassKeys.known r) (g.R.Runtime.program r) (g.R.Classes.made r) c.args.objects.now t f in
    was_read here b c.args.me args c.args.variable c.requires.what c.read.result levels (λ body ws s began.
    (let a = acts here b c.args.me args body ws s.heap began in
    (c.read.ensures.means t.serials s.heap a, c.read.ensures.usable t.serials s.heap a)))
