use Rattle.som_cmd_main.proofs.Ending.{runs_so}
use Rattle.som_cmd_main.proofs.filtered.run_counted.Goals as goal

pub returns-clause-runs : goal.returns-clause-runs
returns-clause-runs g c = runs_so _ _ _ _ (g.K.Sink.faults c.args.out.now) (g.K.Sink.faults c.finish.new.out) _ _ _ _ _ c.finish.result.outcome c.finish.ensures.runs c.finish.ensures.counts
