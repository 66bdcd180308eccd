use Rattle.som_semantics.specs.Means.{means_in}
use Rattle.som_cmd_generate.proofs.MainLaws.{main_prints, not_begun}
use Rattle.som_cmd_generate.proofs.running.run_kernel.Goals as goal

pub returns-in-Ok-clause-prints : goal.returns-in-Ok-clause-prints
returns-in-Ok-clause-prints g c =
    let r = c.args.runtime.now in
    main_prints (g.R.Classes.world r) (g.R.Runtime.program r) c.args.fuel (g.K.Sink.faults c.args.out.now) (g.K.Sink.faults c.run_unseen.new.out) (g.K.Sink.faults c.end_run.new.out)
    (g.K.Sink.written c.args.out.now) (g.K.Sink.written c.run_unseen.new.out) (g.K.Sink.written c.end_run.new.out) c.in-Ok.finished.outcome c.in-Ok.finished.left c.end_run.result
    c.in-Ok.ensures.runs c.in-Ok.ensures.left c.run_unseen.ensures.later c.end_run.ensures.ends

pub returns-in-Err-clause-prints : goal.returns-in-Err-clause-prints
returns-in-Err-clause-prints g c =
    let r = c.args.runtime.now in
    not_begun (means_in (g.R.Classes.world r) (g.R.Runtime.program r) c.args.fuel) (g.K.Sink.faults c.args.out.now) (g.K.Sink.faults c.run_unseen.new.out) (g.K.Sink.written c.args.out.now) (g.K.Sink.written c.run_unseen.new.out) c.in-Err.ensures.untold
