use Rattle.std.proofs.Common.{sym, subst}
use Rattle.som_interp_loop.specs.Scene.{scene}
use Rattle.som_objects.specs.declared.cell.Cell.TheVariants as cells
use Rattle.som_interp_state.specs.declared.frames.Now.TheVariants as nows
use Rattle.som_exec.specs.Came.{Came}
use Rattle.som_exec.proofs.Obeying.{taken_came, without_call}
use Rattle.som_exec.proofs.instruction_step.obey_taken.Goals as goal

pub returns-clause-came : goal.returns-clause-came
returns-clause-came g c shows =
    let r = c.args.runtime.now in
    let was = scene (g.R.Runtime.linked r) (g.R.ClassKeys.known r) (g.R.Runtime.program r) (g.R.Classes.made r) c.args.objects.now c.args.task.now c.args.fuel.now in
    let q = c.obey-answer.new.runtime in
    let new = scene (g.R.Runtime.linked q) (g.R.ClassKeys.known q) (g.R.Runtime.program q) (g.R.Classes.made q) c.obey-answer.new.objects c.obey-answer.new.task c.obey-answer.new.fuel in
    let b = c.take_body-body.result in
    let is = c.take_body-body.ensures.body in
    let plain = without_call was c.requires.no_call b is in
    let p = c.args.prefix.now in
    let before = g.K.Sink.written c.args.out.now in
    let after = g.K.Sink.written c.obey-answer.new.out in
    subst (Came shows p before after was new) (sym c.placed.ensures)
    (taken_came was b is (nows.Answering cells.Nil) shows p before after new c.obey-answer.result plain
    (λ ws s runs f. c.requires.unit b ws s is runs f) c.requires.somewhere c.take_body-body.new.frames c.take_body-body.ensures.left c.obey-answer.ensures.obeyed c.obey-answer.ensures.keeps)
