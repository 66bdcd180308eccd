use Rattle.som_io.proofs.ShownLaws.{front_none}
use Rattle.som_exec.proofs.telling.tell_at.Goals as goal

pub returns-in_err-running-clause-front : goal.returns-in_err-running-clause-front
returns-in_err-running-clause-front g c = front_none (g.K.Sink.written c.args.out.now) _
