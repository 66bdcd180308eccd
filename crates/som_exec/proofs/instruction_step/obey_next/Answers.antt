use Rattle.som_interp_loop.specs.Scene.{scene}
use Rattle.som_exec.proofs.Obeying.{spent_came}
use Rattle.som_exec.proofs.instruction_step.obey_next.Goals as goal

pub returns-then-is_spent-clause-came : goal.returns-then-is_spent-clause-came
returns-then-is_spent-clause-came g c shows =
    let r = c.args.runtime.now in
    let was = scene (g.R.Runtime.linked r) (g.R.ClassKeys.known r) (g.R.Runtime.program r) (g.R.Classes.made r) c.args.objects.now c.args.task.now c.args.fuel.now in
    spent_came was c.running.result.now c.running.ensures shows c.args.prefix.now (g.K.Sink.written c.args.out.now) (c.is_spent.ensures.spent c.if-is_spent.true)
