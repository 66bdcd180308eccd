use Rattle.std.proofs.Common.{[], inl, inr, refl, subst}
use Rattle.som_interp_loop.specs.Counted.{AreBounded, IsBounded}
use Rattle.som_machine_laws.specs.Counted.{IsSearchFree}
use Rattle.som_interp_task.specs.Run.{CountsRun, CountsRunSearches, LeavesFuel}
use Rattle.som_semantics.specs.Means.{means_in}
use Rattle.som_semantics.specs.World.{World}
use Rattle.som_trace.specs.Filters.{shows_of}
use Rattle.som_exec.proofs.Alone.{not_started}
use Rattle.som_exec.proofs.Counting.{bounded_run, direct_run, none_counted, none_searched, run_direct, run_on}
use Rattle.som_exec.specs.Runs.{RunsMain}
use Rattle.som_exec.proofs.running.finish.Goals as goal

pub returns-in-Ok-clause-runs : goal.returns-in-Ok-clause-runs
returns-in-Ok-clause-runs g c =
    let r = c.args.runtime.now in
    subst (λ (w : World). RunsMain w (g.R.Runtime.program r) c.args.fuel (shows_of c.args.trace.now) (g.K.Sink.written c.args.out.now) (g.K.Sink.written c.run_task-finished.new.out) (g.R.ClassKeys.known r).classes (g.R.Classes.made r) (g.R.Classes.made c.run_task-finished.new.runtime) c.run_task-finished.result.outcome)
    c.know.ensures.agree.linked_answers c.run_task-finished.ensures.runs

pub returns-in-Err-clause-runs : goal.returns-in-Err-clause-runs
returns-in-Err-clause-runs g c = not_started _ _ _ _ (g.K.Sink.written c.args.out.now) _ _

pub returns-in-Ok-clause-steps : goal.returns-in-Ok-clause-steps
returns-in-Ok-clause-steps g c =
    let r = c.args.runtime.now in
    let end = c.run_task-finished.new in
    let made = g.R.Classes.made end.runtime in
    let kn = g.R.ClassKeys.known r in
    let main = g.R.Runtime.program r in
    let free : Type 0 = IsSearchFree kn.classes main made in
    record {
      steps =
          subst (λ (w : World). CountsRun free (means_in w main c.args.fuel) (shows_of c.args.trace.now) [] (g.K.Sink.written c.args.out.now) (g.K.Sink.written end.out) c.args.steps.now end.steps c.run_task-finished.result.outcome) c.know.ensures.agree.linked_answers
          (run_direct (IsBounded (g.R.Runtime.linked r).world kn.classes main made) free (λ x. inl (refl, direct_run (g.R.Classes.keys r) (g.R.Classes.world r) kn (g.R.Runtime.linked r) main made c.know.ensures.agree c.know.ensures.loads x))
          (means_in (g.R.Runtime.linked r).world main c.args.fuel) (shows_of c.args.trace.now) [] (g.K.Sink.written c.args.out.now) (g.K.Sink.written end.out) c.args.steps.now end.steps c.run_task-finished.result.outcome c.run_task-finished.ensures.steps);
      searches =
          subst (λ (w : World). CountsRunSearches (AreBounded kn.classes made) (means_in w main c.args.fuel) (shows_of c.args.trace.now) [] (g.K.Sink.written c.args.out.now) (g.K.Sink.written end.out) c.args.steps.now end.steps c.run_task-finished.result.outcome) c.know.ensures.agree.linked_answers
          (run_on (IsBounded (g.R.Runtime.linked r).world kn.classes main made) (AreBounded kn.classes made) (λ n b. inr (bounded_run (g.R.Classes.keys r) (g.R.Classes.world r) kn (g.R.Runtime.linked r) main made c.know.ensures.agree c.know.ensures.loads n b))
          (means_in (g.R.Runtime.linked r).world main c.args.fuel) (shows_of c.args.trace.now) [] (g.K.Sink.written c.args.out.now) (g.K.Sink.written end.out) c.args.steps.now end.steps c.run_task-finished.result.outcome c.run_task-finished.ensures.steps);
    }

pub returns-in-Err-clause-steps : goal.returns-in-Err-clause-steps
returns-in-Err-clause-steps g c =
    let r = c.args.runtime.now in
    record {
      steps =
          none_counted (means_in (g.R.Classes.world r) (g.R.Runtime.program r) c.args.fuel) (shows_of c.args.trace.now) [] (g.K.Sink.written c.args.out.now) c.args.steps.now (IsSearchFree (g.R.ClassKeys.known r).classes (g.R.Runtime.program r) (g.R.Classes.made r));
      searches =
          none_searched (means_in (g.R.Classes.world r) (g.R.Runtime.program r) c.args.fuel) (shows_of c.args.trace.now) [] (g.K.Sink.written c.args.out.now) c.args.steps.now (AreBounded (g.R.ClassKeys.known r).classes (g.R.Classes.made r));
    }

pub returns-in-Ok-clause-left : goal.returns-in-Ok-clause-left
returns-in-Ok-clause-left g c =
    let r = c.args.runtime.now in
    subst (λ (w : World). LeavesFuel (means_in w (g.R.Runtime.program r) c.args.fuel) c.run_task-finished.result.left c.run_task-finished.result.outcome) c.know.ensures.agree.linked_answers c.run_task-finished.ensures.left
