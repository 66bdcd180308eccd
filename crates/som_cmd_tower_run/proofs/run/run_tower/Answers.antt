use Rattle.std.proofs.Common.{inl, inr, refl}
use Rattle.som_cmd_run.proofs.RunStatuses.{main_calm, main_in, main_status, never}
use Rattle.som_cmd_tower_run.proofs.Running.{ran_ends, ran_fronts, refused_ends, refused_fronts}
use Rattle.som_cmd_tower_run.proofs.run.run_tower.Goals as goal

pub returns-in-Err-clause-answered : goal.returns-in-Err-clause-answered
returns-in-Err-clause-answered g c = λ not6 not8 not10.
    refused_ends c.args.client.now c.args.below.now c.args.fuel (g.S.Store.files c.args.store.now) c.in-Err.stop c.in-Err.ensures.answer c.refuse.result (g.S.Store.files c.link_tower.new.store) c.link_tower.ensures.files (g.K.Sink.written c.args.out.now) (g.K.Sink.written c.refuse.new.out) (c.refuse.ensures.all not6 not8 not10)

pub returns-in-Err-clause-front : goal.returns-in-Err-clause-front
returns-in-Err-clause-front g c = λ _.
    refused_fronts c.args.client.now c.args.below.now c.args.fuel (g.S.Store.files c.args.store.now) c.in-Err.stop c.in-Err.ensures.answer (g.S.Store.faults c.args.store.now) (g.S.Store.faults c.link_tower.new.store) c.in-Err.ensures.cause (g.K.Sink.written c.args.out.now) (g.K.Sink.written c.refuse.new.out) c.refuse.ensures.front

pub returns-in-Ok-clause-answered : goal.returns-in-Ok-clause-answered
returns-in-Ok-clause-answered g c = λ not6 not8 not10.
    ran_ends c.args.client.now c.args.below.now c.args.fuel (g.S.Store.files c.args.store.now) c.in-Ok.kernel c.in-Ok.ensures.answer (g.K.Sink.faults c.args.out.now) (g.K.Sink.faults c.run_main.new.out) (g.K.Sink.written c.args.out.now) (g.K.Sink.written c.run_main.new.out) c.run_main.result c.run_main.ensures.ends not8 not10 (g.S.Store.files c.link_tower.new.store) c.link_tower.ensures.files

pub returns-in-Ok-clause-front : goal.returns-in-Ok-clause-front
returns-in-Ok-clause-front g c = λ _.
    ran_fronts c.args.client.now c.args.below.now c.args.fuel (g.S.Store.files c.args.store.now) c.in-Ok.kernel c.in-Ok.ensures.answer (g.K.Sink.faults c.args.out.now) (g.K.Sink.faults c.run_main.new.out) (g.K.Sink.written c.args.out.now) (g.K.Sink.written c.run_main.new.out) c.run_main.result c.run_main.ensures.ends (g.S.Store.faults c.args.store.now) (g.S.Store.faults c.link_tower.new.store)

pub returns-in-Ok-clause-statuses : goal.returns-in-Ok-clause-statuses
returns-in-Ok-clause-statuses g c = main_in c.run_main.result (main_status c.run_main.ensures.ends)

pub returns-in-Ok-clause-one_line : goal.returns-in-Ok-clause-one_line
returns-in-Ok-clause-one_line g c (inl is) = absurd (never 4 c.run_main.result (main_status c.run_main.ensures.ends) refl refl refl refl refl is)
returns-in-Ok-clause-one_line g c (inr (inl is)) = absurd (never 5 c.run_main.result (main_status c.run_main.ensures.ends) refl refl refl refl refl is)
returns-in-Ok-clause-one_line g c (inr (inr is)) = absurd (never 7 c.run_main.result (main_status c.run_main.ensures.ends) refl refl refl refl refl is)

pub returns-in-Ok-clause-store_failed : goal.returns-in-Ok-clause-store_failed
returns-in-Ok-clause-store_failed g c = λ is. absurd (never 6 c.run_main.result (main_status c.run_main.ensures.ends) refl refl refl refl refl is)

pub returns-in-Ok-clause-sink_failed : goal.returns-in-Ok-clause-sink_failed
returns-in-Ok-clause-sink_failed g c = c.run_main.ensures.ends.cause

pub returns-in-Ok-clause-words : goal.returns-in-Ok-clause-words
returns-in-Ok-clause-words g c = never 2 c.run_main.result (main_status c.run_main.ensures.ends) refl refl refl refl refl

pub returns-in-Ok-clause-calm : goal.returns-in-Ok-clause-calm
returns-in-Ok-clause-calm g c = λ store sink. main_calm c.run_main.result (main_status c.run_main.ensures.ends) (c.run_main.ensures.calm sink)
