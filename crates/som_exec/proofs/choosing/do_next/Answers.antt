use Rattle.som_trace.specs.Filters.{shows_of}
use Rattle.som_exec.proofs.StepCounting.{counted_same}
use Rattle.som_exec.proofs.Joined.{silent_does}
use Rattle.som_exec.proofs.choosing.do_next.Goals as goal

pub returns-in-Calls-clause-does : goal.returns-in-Calls-clause-does
returns-in-Calls-clause-does g c =
    let o = c.args.out.now in
    silent_does (shows_of c.args.trace.now) c.args.prefix.now (g.K.Sink.written o) _ _ (g.K.Sink.faults o) (g.K.Sink.calm o) c.call_next.result c.untold.result c.untold.ensures (c.call_next.ensures.came c.args.fuel.now c.requires.somewhere)

pub returns-in-Makes-clause-does : goal.returns-in-Makes-clause-does
returns-in-Makes-clause-does g c =
    let o = c.args.out.now in
    silent_does (shows_of c.args.trace.now) c.args.prefix.now (g.K.Sink.written o) _ _ (g.K.Sink.faults o) (g.K.Sink.calm o) c.make_next.result c.untold-in-Makes.result c.untold-in-Makes.ensures (c.make_next.ensures c.args.fuel.now c.requires.somewhere)

pub returns-in-Resumes-clause-does : goal.returns-in-Resumes-clause-does
returns-in-Resumes-clause-does g c =
    let o = c.args.out.now in
    silent_does (shows_of c.args.trace.now) c.args.prefix.now (g.K.Sink.written o) _ _ (g.K.Sink.faults o) (g.K.Sink.calm o) c.resume_next.result c.untold-in-Resumes.result c.untold-in-Resumes.ensures (c.resume_next.ensures.came c.args.fuel.now c.requires.somewhere)

pub returns-in-Calls-clause-counted : goal.returns-in-Calls-clause-counted
returns-in-Calls-clause-counted g c = c.call_next.ensures.counted c.args.fuel.now

pub returns-in-Resumes-clause-counted : goal.returns-in-Resumes-clause-counted
returns-in-Resumes-clause-counted g c = c.resume_next.ensures.counted c.args.fuel.now

pub returns-in-Obeys-clause-counted : goal.returns-in-Obeys-clause-counted
returns-in-Obeys-clause-counted g c = counted_same _ _

pub returns-in-Makes-clause-counted : goal.returns-in-Makes-clause-counted
returns-in-Makes-clause-counted g c = counted_same _ _
