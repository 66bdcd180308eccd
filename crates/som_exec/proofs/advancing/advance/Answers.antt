use Rattle.std.proofs.Common.{inl, inr, refl}
use Rattle.som_interp_loop.specs.Counted.{AreBounded, IsBounded}
use Rattle.som_interp_loop.specs.Scene.{scene}
use Rattle.som_machine_laws.specs.Counted.{IsSearchFree}
use Rattle.som_trace.specs.Filters.{shows_of}
use Rattle.som_exec.proofs.Counting.{advance_direct, advance_on, bounded_run, direct_run}
use Rattle.som_exec.proofs.advancing.advance.Goals as goal

pub returns-clause-steps : goal.returns-clause-steps
returns-clause-steps g c =
    let r = c.args.runtime.now in
    let main = g.R.Runtime.program r in
    let end = c.go_on-answer.new in
    let made = g.R.Classes.made end.runtime in
    let kn = g.R.ClassKeys.known r in
    record {
      steps =
          advance_direct (IsBounded (g.R.Runtime.linked r).world kn.classes main made) (IsSearchFree kn.classes main made)
          (λ free. inl (refl, direct_run (g.R.Classes.keys r) (g.R.Classes.world r) kn (g.R.Runtime.linked r) main made c.know.ensures.agree c.know.ensures.loads free))
          (scene (g.R.Runtime.linked r) kn main (g.R.Classes.made r) c.args.objects.now c.args.task.now.task 0) c.args.units (shows_of c.args.trace.now) c.args.prefix.now
          (g.K.Sink.written c.args.out.now) (g.K.Sink.written end.out) c.args.steps.now end.steps c.go_on-answer.result c.go_on-answer.ensures.steps;
      searches =
          advance_on (IsBounded (g.R.Runtime.linked r).world kn.classes main made) (AreBounded kn.classes made)
          (λ n b. inr (bounded_run (g.R.Classes.keys r) (g.R.Classes.world r) kn (g.R.Runtime.linked r) main made c.know.ensures.agree c.know.ensures.loads n b))
          (scene (g.R.Runtime.linked r) kn main (g.R.Classes.made r) c.args.objects.now c.args.task.now.task 0) c.args.units (shows_of c.args.trace.now) c.args.prefix.now
          (g.K.Sink.written c.args.out.now) (g.K.Sink.written end.out) c.args.steps.now end.steps c.go_on-answer.result c.go_on-answer.ensures.steps;
    }
