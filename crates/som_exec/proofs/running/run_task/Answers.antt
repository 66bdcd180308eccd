use Rattle.std.proofs.Common.{refl, rules}
use Rattle.som_interp_loop.specs.Scene.{scene}
use Rattle.som_trace.specs.Filters.{shows_of}
use Rattle.som_exec.proofs.Alone.{runs_left}
use Rattle.som_exec.proofs.Counting.{run_counts}
use Rattle.som_exec.proofs.running.run_task.Goals as goal

pub returns-clause-runs : goal.returns-clause-runs
returns-clause-runs g c =
    let r = c.args.runtime.now in
    let m = c.run-outcome.new.moves in
    let q = m.runtime.now in
    runs_left (g.R.Runtime.linked r) (g.R.ClassKeys.known r) (g.R.Runtime.program r) (g.R.Classes.made r) c.new-objects.result c.args.task.task 0 c.args.fuel (shows_of c.args.trace.now) c.from_vec-prefix.result (g.K.Sink.written c.args.out.now)
    (scene (g.R.Runtime.linked q) (g.R.ClassKeys.known q) (g.R.Runtime.program q) (g.R.Classes.made q) m.objects.now m.task.now m.fuel) c.run-outcome.result c.run-outcome.ensures.runs
    (search rules) (search rules) refl (search rules)

pub returns-clause-steps : goal.returns-clause-steps
returns-clause-steps g c =
    let r = c.args.runtime.now in
    let m = c.run-outcome.new.moves in
    let q = m.runtime.now in
    let keeps = c.run-outcome.ensures.runs.keeps in
    run_counts (scene (g.R.Runtime.linked r) (g.R.ClassKeys.known r) (g.R.Runtime.program r) (g.R.Classes.made r) c.new-objects.result c.args.task.task 0)
    (scene (g.R.Runtime.linked q) (g.R.ClassKeys.known q) (g.R.Runtime.program q) (g.R.Classes.made q) m.objects.now m.task.now m.fuel) keeps.linked keeps.classes keeps.main _ (search rules) c.args.steps.now m.steps.now c.args.fuel (shows_of c.args.trace.now) (g.K.Sink.written c.args.out.now) c.run-outcome.result c.run-outcome.ensures.counted (search rules) (search rules) (search rules)

pub returns-clause-left : goal.returns-clause-left
returns-clause-left g c = c.run-outcome.ensures.left
