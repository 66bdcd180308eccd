use Rattle.std.proofs.Common.{length}
use Rattle.som_tasks.specs.Taken.{clients_of}
use Rattle.som_cmd_tasks.proofs.Telling.{all_given, no_memory, sink_failed}
use Rattle.som_cmd_tasks.proofs.giving.give_turns.Goals as goal

pub returns-in-Finished-clause-ends : goal.returns-in-Finished-clause-ends
returns-in-Finished-clause-ends g c =
    all_given (clients_of g.R.Classes.world g.R.Runtime.program c.args.kernels.now) c.args.turns.now (length c.args.kernels.now) (g.K.Sink.faults c.args.out.now) (g.K.Sink.written c.args.out.now) (g.K.Sink.calm c.args.out.now) (g.K.Sink.calm c.give_counted.new.out)
    (g.K.Sink.faults c.give_counted.new.out) (g.K.Sink.faults c.tell_ends.new.out) (g.K.Sink.written c.give_counted.new.out) (g.K.Sink.written c.tell_ends.new.out) c.in-Finished.ends c.as_slice.result.now c.tell_ends.result c.as_slice.ensures c.in-Finished.ensures
    c.tell_ends.ensures.all c.tell_ends.ensures.status c.tell_ends.ensures.cause c.tell_ends.ensures.front

pub returns-in-SinkFailed-clause-ends : goal.returns-in-SinkFailed-clause-ends
returns-in-SinkFailed-clause-ends g c =
    sink_failed (clients_of g.R.Classes.world g.R.Runtime.program c.args.kernels.now) c.args.turns.now (length c.args.kernels.now) (g.K.Sink.faults c.args.out.now) (g.K.Sink.written c.args.out.now) (g.K.Sink.calm c.args.out.now) (g.K.Sink.calm c.give_counted.new.out)
    (g.K.Sink.faults c.give_counted.new.out) (g.K.Sink.written c.give_counted.new.out) c.in-SinkFailed.ensures

pub returns-in-NoMemory-clause-ends : goal.returns-in-NoMemory-clause-ends
returns-in-NoMemory-clause-ends g c =
    no_memory (clients_of g.R.Classes.world g.R.Runtime.program c.args.kernels.now) c.args.turns.now (length c.args.kernels.now) (g.K.Sink.faults c.args.out.now) (g.K.Sink.written c.args.out.now) (g.K.Sink.calm c.args.out.now) (g.K.Sink.calm c.give_counted.new.out)
    (g.K.Sink.faults c.give_counted.new.out) (g.K.Sink.written c.give_counted.new.out) c.in-NoMemory.ensures
