use Rattle.std.proofs.Common.{inl, inr, refl, subst, sym, ℕ}
use Rattle.som_cmd_run.proofs.RunStatuses.{main_calm, never}
use Rattle.som_cmd_tasks.specs.Patterns.{AreTurns, turns_given}
use Rattle.som_cmd_tasks.proofs.Taking.{refused_ends, refused_fronts, stop_in, taken_ends, taken_fronts, taken_in, turns_status}
use Rattle.som_cmd_tasks.proofs.tasks.run_tasks.Goals as goal

pub give_pattern-requires : goal.give_pattern-requires
give_pattern-requires g c = subst (λ (n : ℕ). AreTurns n (turns_given c.args.pattern.now c.args.rounds)) (sym c.in-Ok.ensures.long) c.requires

pub returns-in-Err-clause-answered : goal.returns-in-Err-clause-answered
returns-in-Err-clause-answered g c = λ not6 not8 not10.
    refused_ends c.args.library.now (turns_given c.args.pattern.now c.args.rounds) c.args.clients.now (g.S.Store.files c.args.store.now) c.in-Err.stop c.in-Err.ensures.answer c.refuse.result (g.S.Store.files c.link_clients.new.store) c.link_clients.ensures.files (g.K.Sink.written c.args.out.now) (g.K.Sink.written c.refuse.new.out) (c.refuse.ensures.all not6 not8 not10)

pub returns-in-Err-clause-front : goal.returns-in-Err-clause-front
returns-in-Err-clause-front g c = λ _.
    refused_fronts c.args.library.now (turns_given c.args.pattern.now c.args.rounds) c.args.clients.now (g.S.Store.files c.args.store.now) c.in-Err.stop c.in-Err.ensures.answer (g.S.Store.faults c.args.store.now) (g.S.Store.faults c.link_clients.new.store) c.in-Err.ensures.cause (g.K.Sink.written c.args.out.now) (g.K.Sink.written c.refuse.new.out) c.refuse.ensures.front

pub returns-in-Ok-clause-answered : goal.returns-in-Ok-clause-answered
returns-in-Ok-clause-answered g c = λ not6 not8 not10.
    taken_ends c.args.library.now (turns_given c.args.pattern.now c.args.rounds) c.args.clients.now (g.S.Store.files c.args.store.now) c.in-Ok.kernels c.in-Ok.ensures.answer (g.K.Sink.faults c.args.out.now) (g.K.Sink.faults c.give_pattern.new.out) (g.K.Sink.written c.args.out.now) (g.K.Sink.written c.give_pattern.new.out) c.give_pattern.result c.give_pattern.ensures.ends not8 not10 (g.S.Store.files c.link_clients.new.store) c.link_clients.ensures.files

pub returns-in-Ok-clause-front : goal.returns-in-Ok-clause-front
returns-in-Ok-clause-front g c = λ _.
    taken_fronts c.args.library.now (turns_given c.args.pattern.now c.args.rounds) c.args.clients.now (g.S.Store.files c.args.store.now) c.in-Ok.kernels c.in-Ok.ensures.answer (g.K.Sink.faults c.args.out.now) (g.K.Sink.faults c.give_pattern.new.out) (g.K.Sink.written c.args.out.now) (g.K.Sink.written c.give_pattern.new.out) c.give_pattern.result c.give_pattern.ensures.ends (g.S.Store.faults c.args.store.now) (g.S.Store.faults c.link_clients.new.store)

pub returns-in-Ok-clause-statuses : goal.returns-in-Ok-clause-statuses
returns-in-Ok-clause-statuses g c = taken_in c.give_pattern.ensures.ends

pub returns-in-Ok-clause-one_line : goal.returns-in-Ok-clause-one_line
returns-in-Ok-clause-one_line g c (inl is) = absurd (never 4 c.give_pattern.result (turns_status c.give_pattern.ensures.ends) refl refl refl refl refl is)
returns-in-Ok-clause-one_line g c (inr (inl is)) = absurd (never 5 c.give_pattern.result (turns_status c.give_pattern.ensures.ends) refl refl refl refl refl is)
returns-in-Ok-clause-one_line g c (inr (inr is)) = absurd (never 7 c.give_pattern.result (turns_status c.give_pattern.ensures.ends) refl refl refl refl refl is)

pub returns-in-Ok-clause-store_failed : goal.returns-in-Ok-clause-store_failed
returns-in-Ok-clause-store_failed g c = λ is. absurd (never 6 c.give_pattern.result (turns_status c.give_pattern.ensures.ends) refl refl refl refl refl is)

pub returns-in-Ok-clause-sink_failed : goal.returns-in-Ok-clause-sink_failed
returns-in-Ok-clause-sink_failed g c = c.give_pattern.ensures.ends.cause

pub returns-in-Ok-clause-words : goal.returns-in-Ok-clause-words
returns-in-Ok-clause-words g c = never 2 c.give_pattern.result (turns_status c.give_pattern.ensures.ends) refl refl refl refl refl

pub returns-in-Ok-clause-calm : goal.returns-in-Ok-clause-calm
returns-in-Ok-clause-calm g c = λ store sink. main_calm c.give_pattern.result (turns_status c.give_pattern.ensures.ends) (c.give_pattern.ensures.calm sink)
