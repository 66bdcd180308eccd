use Rattle.som_cmd_generate.specs.GenerateAnswer.{client_run, generated_text}
use Rattle.som_cmd_generate.proofs.AnswerLaws.{is_made, made_calm, made_ends, made_fronts, made_in, never_six, never_two, quietly, stop_among, stop_answered, stop_fronts}
use Rattle.som_cmd_generate.proofs.generating.generate.Goals as goal

-- ---- all was made

pub run_made-requires : goal.run_made-requires
run_made-requires g c = is_made c.args.count c.in-Ok.made c.in-Ok.ensures

pub returns-in-Ok-clause-answered : goal.returns-in-Ok-clause-answered
returns-in-Ok-clause-answered g c = λ not8 not10 files.
    made_ends c.args.count c.in-Ok.made c.in-Ok.ensures (g.K.Sink.faults c.args.out.now) (g.K.Sink.faults c.run_made.new.out) (g.K.Sink.written c.args.out.now) (g.K.Sink.written c.run_made.new.out) c.run_made.result c.run_made.ensures.prints
    not8 not10 files

pub returns-in-Ok-clause-front : goal.returns-in-Ok-clause-front
returns-in-Ok-clause-front g c = λ either files.
    made_fronts c.args.count c.in-Ok.made c.in-Ok.ensures (g.K.Sink.faults c.args.out.now) (g.K.Sink.faults c.run_made.new.out) (g.K.Sink.written c.args.out.now) (g.K.Sink.written c.run_made.new.out) c.run_made.result c.run_made.ensures.prints
    files

pub returns-in-Ok-clause-statuses : goal.returns-in-Ok-clause-statuses
returns-in-Ok-clause-statuses g c =
    made_in c.in-Ok.made (generated_text c.args.count (client_run c.in-Ok.made)) (g.K.Sink.faults c.args.out.now) (g.K.Sink.faults c.run_made.new.out) (g.K.Sink.written c.args.out.now) (g.K.Sink.written c.run_made.new.out) c.run_made.result
    c.run_made.ensures.prints

pub returns-in-Ok-clause-sink_failed : goal.returns-in-Ok-clause-sink_failed
returns-in-Ok-clause-sink_failed g c = c.run_made.ensures.prints.cause

pub returns-in-Ok-clause-calm : goal.returns-in-Ok-clause-calm
returns-in-Ok-clause-calm g c = λ calm.
    made_calm c.in-Ok.made (generated_text c.args.count (client_run c.in-Ok.made)) (g.K.Sink.faults c.args.out.now) (g.K.Sink.faults c.run_made.new.out) (g.K.Sink.written c.args.out.now) (g.K.Sink.written c.run_made.new.out) c.run_made.result
    c.run_made.ensures.prints (c.run_made.ensures.calm calm)

-- ---- a step refused

pub returns-in-Err-clause-answered : goal.returns-in-Err-clause-answered
returns-in-Err-clause-answered g c = λ not8 not10 files.
    stop_answered c.args.count c.in-Err.fault c.stop_of.result c.in-Err.ensures c.stop_of.ensures (g.K.Sink.written c.args.out.now) (g.K.Sink.written c.refuse.new.out) c.refuse.result c.refuse.ensures.all c.refuse.ensures.store_failed
    not8 not10 files

pub returns-in-Err-clause-front : goal.returns-in-Err-clause-front
returns-in-Err-clause-front g c = λ either files.
    stop_fronts c.args.count c.requires c.in-Err.fault c.stop_of.result c.in-Err.ensures c.stop_of.ensures (g.K.Sink.written c.args.out.now) (g.K.Sink.written c.refuse.new.out) c.refuse.ensures.front files

pub returns-in-Err-clause-statuses : goal.returns-in-Err-clause-statuses
returns-in-Err-clause-statuses g c =
    stop_among c.args.count c.in-Err.fault c.stop_of.result c.in-Err.ensures c.stop_of.ensures (g.K.Sink.written c.args.out.now) (g.K.Sink.written c.refuse.new.out) c.refuse.result c.refuse.ensures.all c.refuse.ensures.store_failed

pub returns-in-Err-clause-calm : goal.returns-in-Err-clause-calm
returns-in-Err-clause-calm g c = λ calm. c.refuse.ensures.calm calm (quietly c.in-Err.fault c.stop_of.result c.stop_of.ensures)

-- ---- statuses that never come

pub returns-in-Ok-clause-words : goal.returns-in-Ok-clause-words
returns-in-Ok-clause-words g c =
    never_two c.run_made.result (made_in c.in-Ok.made (generated_text c.args.count (client_run c.in-Ok.made)) (g.K.Sink.faults c.args.out.now) (g.K.Sink.faults c.run_made.new.out) (g.K.Sink.written c.args.out.now) (g.K.Sink.written c.run_made.new.out) c.run_made.result c.run_made.ensures.prints)

pub returns-in-Ok-clause-no_store : goal.returns-in-Ok-clause-no_store
returns-in-Ok-clause-no_store g c =
    never_six c.run_made.result (made_in c.in-Ok.made (generated_text c.args.count (client_run c.in-Ok.made)) (g.K.Sink.faults c.args.out.now) (g.K.Sink.faults c.run_made.new.out) (g.K.Sink.written c.args.out.now) (g.K.Sink.written c.run_made.new.out) c.run_made.result c.run_made.ensures.prints)

pub returns-in-Err-clause-no_store : goal.returns-in-Err-clause-no_store
returns-in-Err-clause-no_store g c =
    never_six c.refuse.result (stop_among c.args.count c.in-Err.fault c.stop_of.result c.in-Err.ensures c.stop_of.ensures (g.K.Sink.written c.args.out.now) (g.K.Sink.written c.refuse.new.out) c.refuse.result c.refuse.ensures.all c.refuse.ensures.store_failed)
