use Rattle.som_cmd_tasks.specs.Ends.{lines_from}
use Rattle.som_cmd_tasks.proofs.Ending.{ends_front}
use Rattle.som_cmd_tasks.proofs.ends.tell_ends.Goals as goal

pub returns-clause-front : goal.returns-clause-front
returns-clause-front g c = ends_front (lines_from 0 c.args.ends.now) c.ends_output.result (g.K.Sink.written c.args.out.now) (g.K.Sink.written c.tell.new.out) c.ends_output.ensures c.tell.ensures.front
