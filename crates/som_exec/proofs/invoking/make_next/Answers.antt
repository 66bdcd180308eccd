use Rattle.som_interp_loop.specs.Scene.{scene}
use Rattle.som_objects.specs.declared.cell.Cell.TheVariants as cells
use Rattle.som_interp_state.specs.declared.frames.Now.TheVariants as nows
use Rattle.som_exec.proofs.Entering.{made_came, taken_standing}
use Rattle.som_exec.proofs.invoking.make_next.Goals as goal

pub make_call-requires : goal.make_call-requires
make_call-requires g c =
    let r = c.args.runtime.now in
    let f = c.requires.somewhere.0 in
    let was = scene (g.R.Runtime.linked r) (g.R.ClassKeys.known r) (g.R.Runtime.program r) (g.R.Classes.made r) c.args.objects.now c.args.task.now f in
    let taken = c.take_call-levels in
    record { standing = (record c.args.task.now { frames = taken.new.frames }, f, taken_standing was taken.result.0 taken.result.1 taken.ensures.call (nows.Answering cells.Nil) taken.new.frames taken.ensures.left c.requires.somewhere.1) }

pub returns : goal.returns
returns g c f there =
    let r = c.args.runtime.now in
    let was = scene (g.R.Runtime.linked r) (g.R.ClassKeys.known r) (g.R.Runtime.program r) (g.R.Classes.made r) c.args.objects.now c.args.task.now f in
    let taken = c.take_call-levels in
    made_came was taken.result.0 taken.result.1 taken.ensures.call (nows.Answering cells.Nil) c.make_call.result taken.new.frames taken.ensures.left there
    (c.make_call.ensures (record c.args.task.now { frames = taken.new.frames }) f)
