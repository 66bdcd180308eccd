use Rattle.std.proofs.Common.{[], ◌∷◌, Err}
use Rattle.std.specs.List.{concat}
use Rattle.som_cmd_steps.proofs.Statuses.{ends_in}
use Rattle.som_cmd_witness.proofs.Outcomes.{any_ends, any_files, any_front, told_sink, told_statuses, told_store, told_words}
use Rattle.som_cmd_witness.proofs.PutLaws.{over_same}
use Rattle.som_cmd_witness.proofs.Stopping.{stopped_ends, stopped_fails, stopped_files, stopped_fronts}
use Rattle.som_cmd_witness.proofs.Telling.{comes}
use Rattle.som_cmd_witness.proofs.WitnessEndLaws.{witnessed_told}
use Rattle.som_cmd_witness.proofs.witness.witness_images.Goals as goal

pub returns-in-Err-clause-answered : goal.returns-in-Err-clause-answered
returns-in-Err-clause-answered g c = λ not6 not8 not10.
    stopped_ends c.args.out_name.now c.args.old.now c.args.new.now (g.S.Store.files c.args.store.now) c.in-Err.stop c.in-Err.ensures.tells c.refuse.result (g.S.Store.files c.told_of.new.store) c.told_of.ensures.files (g.K.Sink.written c.args.out.now) (g.K.Sink.written c.refuse.new.out) (c.refuse.ensures.all not6 not8 not10)

pub returns-in-Err-clause-statuses : goal.returns-in-Err-clause-statuses
returns-in-Err-clause-statuses g c = ends_in (0 ∷ 5 ∷ 7 ∷ []) c.refuse.result (g.K.Sink.written c.args.out.now) (g.K.Sink.written c.refuse.new.out) (Err c.in-Err.stop) c.in-Err.ensures.refuses c.refuse.ensures.all

pub returns-in-Err-clause-store_failed : goal.returns-in-Err-clause-store_failed
returns-in-Err-clause-store_failed g c = λ six.
    stopped_fails c.args.out_name.now c.args.old.now c.args.new.now (g.S.Store.files c.args.store.now) c.in-Err.stop (g.S.Store.faults c.args.store.now) (g.S.Store.faults c.told_of.new.store) c.in-Err.ensures.cause (g.K.Sink.written c.args.out.now) (g.K.Sink.written c.refuse.new.out) (c.refuse.ensures.store_failed six)

pub returns-in-Err-clause-front : goal.returns-in-Err-clause-front
returns-in-Err-clause-front g c = λ _.
    stopped_fronts c.args.out_name.now c.args.old.now c.args.new.now (g.S.Store.files c.args.store.now) c.in-Err.stop c.in-Err.ensures.tells (g.S.Store.faults c.args.store.now) (g.S.Store.faults c.told_of.new.store) c.in-Err.ensures.cause (g.K.Sink.written c.args.out.now) (g.K.Sink.written c.refuse.new.out) c.refuse.ensures.front

pub returns-in-Err-clause-files : goal.returns-in-Err-clause-files
returns-in-Err-clause-files g c =
    stopped_files c.args.out_name.now c.args.old.now c.args.new.now (g.S.Store.files c.args.store.now) c.in-Err.stop c.refuse.result (g.S.Store.faults c.args.store.now) (g.S.Store.faults c.told_of.new.store) (g.S.Store.files c.told_of.new.store) c.told_of.ensures.files (g.K.Sink.written c.args.out.now) (g.K.Sink.written c.refuse.new.out) c.refuse.ensures.all

pub returns-in-Err-clause-witnessed : goal.returns-in-Err-clause-witnessed
returns-in-Err-clause-witnessed g c = λ not6 not8 not10.
    witnessed_told (g.S.Store.files c.args.store.now) c.args.out_name.now c.args.old.now c.args.new.now c.refuse.result (g.S.Store.faults c.args.store.now) (g.S.Store.faults c.told_of.new.store) (g.S.Store.files c.told_of.new.store) (g.K.Sink.written c.args.out.now) (g.K.Sink.written c.refuse.new.out)
    (stopped_ends c.args.out_name.now c.args.old.now c.args.new.now (g.S.Store.files c.args.store.now) c.in-Err.stop c.in-Err.ensures.tells c.refuse.result (g.S.Store.files c.told_of.new.store) c.told_of.ensures.files (g.K.Sink.written c.args.out.now) (g.K.Sink.written c.refuse.new.out) (c.refuse.ensures.all not6 not8 not10))
    (stopped_files c.args.out_name.now c.args.old.now c.args.new.now (g.S.Store.files c.args.store.now) c.in-Err.stop c.refuse.result (g.S.Store.faults c.args.store.now) (g.S.Store.faults c.told_of.new.store) (g.S.Store.files c.told_of.new.store) c.told_of.ensures.files (g.K.Sink.written c.args.out.now) (g.K.Sink.written c.refuse.new.out) c.refuse.ensures.all)

pub returns-in-Ok-clause-answered : goal.returns-in-Ok-clause-answered
returns-in-Ok-clause-answered g c = λ not6 not8 not10.
    any_ends (concat c.in-Ok.told.lines) c.in-Ok.told.image c.args.out_name.now (g.S.Store.faults c.args.store.now) (g.S.Store.faults c.tell_and_put.new.store) (g.K.Sink.faults c.args.out.now) (g.K.Sink.faults c.tell_and_put.new.out) c.tell_and_put.result (g.S.Store.files c.tell_and_put.new.store) (g.K.Sink.written c.args.out.now) (g.K.Sink.written c.tell_and_put.new.out) c.args.old.now c.args.new.now c.in-Ok.ensures.tells.0 (g.S.Store.files c.args.store.now) c.in-Ok.ensures.tells.1 (comes c.in-Ok.ensures.tells.0 c.in-Ok.told c.in-Ok.ensures.tells.2)
    (over_same (concat c.in-Ok.told.lines) c.in-Ok.told.image (g.S.Store.files c.told_of.new.store) (g.S.Store.files c.args.store.now) c.args.out_name.now (g.S.Store.faults c.args.store.now) (g.S.Store.faults c.told_of.new.store) (g.S.Store.faults c.tell_and_put.new.store) (g.K.Sink.faults c.args.out.now) (g.K.Sink.faults c.tell_and_put.new.out) c.tell_and_put.result (g.S.Store.files c.tell_and_put.new.store) (g.K.Sink.written c.args.out.now) (g.K.Sink.written c.tell_and_put.new.out) c.told_of.ensures.files c.told_of.ensures.later c.tell_and_put.ensures.ends) not6 not8 not10

pub returns-in-Ok-clause-statuses : goal.returns-in-Ok-clause-statuses
returns-in-Ok-clause-statuses g c = told_statuses (concat c.in-Ok.told.lines) c.in-Ok.told.image (g.S.Store.files c.args.store.now) c.args.out_name.now (g.S.Store.faults c.args.store.now) (g.S.Store.faults c.tell_and_put.new.store) (g.K.Sink.faults c.args.out.now) (g.K.Sink.faults c.tell_and_put.new.out) c.tell_and_put.result (g.S.Store.files c.tell_and_put.new.store) (g.K.Sink.written c.args.out.now) (g.K.Sink.written c.tell_and_put.new.out)
    (over_same (concat c.in-Ok.told.lines) c.in-Ok.told.image (g.S.Store.files c.told_of.new.store) (g.S.Store.files c.args.store.now) c.args.out_name.now (g.S.Store.faults c.args.store.now) (g.S.Store.faults c.told_of.new.store) (g.S.Store.faults c.tell_and_put.new.store) (g.K.Sink.faults c.args.out.now) (g.K.Sink.faults c.tell_and_put.new.out) c.tell_and_put.result (g.S.Store.files c.tell_and_put.new.store) (g.K.Sink.written c.args.out.now) (g.K.Sink.written c.tell_and_put.new.out) c.told_of.ensures.files c.told_of.ensures.later c.tell_and_put.ensures.ends)

pub returns-in-Ok-clause-store_failed : goal.returns-in-Ok-clause-store_failed
returns-in-Ok-clause-store_failed g c = λ six.
    told_store (concat c.in-Ok.told.lines) c.in-Ok.told.image (g.S.Store.files c.args.store.now) c.args.out_name.now (g.S.Store.faults c.args.store.now) (g.S.Store.faults c.tell_and_put.new.store) (g.K.Sink.faults c.args.out.now) (g.K.Sink.faults c.tell_and_put.new.out) c.tell_and_put.result (g.S.Store.files c.tell_and_put.new.store) (g.K.Sink.written c.args.out.now) (g.K.Sink.written c.tell_and_put.new.out) c.args.old.now c.args.new.now c.in-Ok.ensures.tells.0 c.in-Ok.ensures.tells.1 (comes c.in-Ok.ensures.tells.0 c.in-Ok.told c.in-Ok.ensures.tells.2) six
    (over_same (concat c.in-Ok.told.lines) c.in-Ok.told.image (g.S.Store.files c.told_of.new.store) (g.S.Store.files c.args.store.now) c.args.out_name.now (g.S.Store.faults c.args.store.now) (g.S.Store.faults c.told_of.new.store) (g.S.Store.faults c.tell_and_put.new.store) (g.K.Sink.faults c.args.out.now) (g.K.Sink.faults c.tell_and_put.new.out) c.tell_and_put.result (g.S.Store.files c.tell_and_put.new.store) (g.K.Sink.written c.args.out.now) (g.K.Sink.written c.tell_and_put.new.out) c.told_of.ensures.files c.told_of.ensures.later c.tell_and_put.ensures.ends)

pub returns-in-Ok-clause-sink_failed : goal.returns-in-Ok-clause-sink_failed
returns-in-Ok-clause-sink_failed g c = λ eight.
    told_sink (concat c.in-Ok.told.lines) c.in-Ok.told.image (g.S.Store.files c.args.store.now) c.args.out_name.now (g.S.Store.faults c.args.store.now) (g.S.Store.faults c.tell_and_put.new.store) (g.K.Sink.faults c.args.out.now) (g.K.Sink.faults c.tell_and_put.new.out) c.tell_and_put.result (g.S.Store.files c.tell_and_put.new.store) (g.K.Sink.written c.args.out.now) (g.K.Sink.written c.tell_and_put.new.out) eight
    (over_same (concat c.in-Ok.told.lines) c.in-Ok.told.image (g.S.Store.files c.told_of.new.store) (g.S.Store.files c.args.store.now) c.args.out_name.now (g.S.Store.faults c.args.store.now) (g.S.Store.faults c.told_of.new.store) (g.S.Store.faults c.tell_and_put.new.store) (g.K.Sink.faults c.args.out.now) (g.K.Sink.faults c.tell_and_put.new.out) c.tell_and_put.result (g.S.Store.files c.tell_and_put.new.store) (g.K.Sink.written c.args.out.now) (g.K.Sink.written c.tell_and_put.new.out) c.told_of.ensures.files c.told_of.ensures.later c.tell_and_put.ensures.ends)

pub returns-in-Ok-clause-front : goal.returns-in-Ok-clause-front
returns-in-Ok-clause-front g c = λ which.
    any_front (concat c.in-Ok.told.lines) c.in-Ok.told.image c.args.out_name.now (g.S.Store.faults c.args.store.now) (g.S.Store.faults c.tell_and_put.new.store) (g.K.Sink.faults c.args.out.now) (g.K.Sink.faults c.tell_and_put.new.out) c.tell_and_put.result (g.S.Store.files c.tell_and_put.new.store) (g.K.Sink.written c.args.out.now) (g.K.Sink.written c.tell_and_put.new.out) c.args.old.now c.args.new.now c.in-Ok.ensures.tells.0 (g.S.Store.files c.args.store.now) c.in-Ok.ensures.tells.1 (comes c.in-Ok.ensures.tells.0 c.in-Ok.told c.in-Ok.ensures.tells.2)
    (over_same (concat c.in-Ok.told.lines) c.in-Ok.told.image (g.S.Store.files c.told_of.new.store) (g.S.Store.files c.args.store.now) c.args.out_name.now (g.S.Store.faults c.args.store.now) (g.S.Store.faults c.told_of.new.store) (g.S.Store.faults c.tell_and_put.new.store) (g.K.Sink.faults c.args.out.now) (g.K.Sink.faults c.tell_and_put.new.out) c.tell_and_put.result (g.S.Store.files c.tell_and_put.new.store) (g.K.Sink.written c.args.out.now) (g.K.Sink.written c.tell_and_put.new.out) c.told_of.ensures.files c.told_of.ensures.later c.tell_and_put.ensures.ends) which

pub returns-in-Ok-clause-words : goal.returns-in-Ok-clause-words
returns-in-Ok-clause-words g c =
    told_words (concat c.in-Ok.told.lines) c.in-Ok.told.image (g.S.Store.files c.args.store.now) c.args.out_name.now (g.S.Store.faults c.args.store.now) (g.S.Store.faults c.tell_and_put.new.store) (g.K.Sink.faults c.args.out.now) (g.K.Sink.faults c.tell_and_put.new.out) c.tell_and_put.result (g.S.Store.files c.tell_and_put.new.store) (g.K.Sink.written c.args.out.now) (g.K.Sink.written c.tell_and_put.new.out)
    (over_same (concat c.in-Ok.told.lines) c.in-Ok.told.image (g.S.Store.files c.told_of.new.store) (g.S.Store.files c.args.store.now) c.args.out_name.now (g.S.Store.faults c.args.store.now) (g.S.Store.faults c.told_of.new.store) (g.S.Store.faults c.tell_and_put.new.store) (g.K.Sink.faults c.args.out.now) (g.K.Sink.faults c.tell_and_put.new.out) c.tell_and_put.result (g.S.Store.files c.tell_and_put.new.store) (g.K.Sink.written c.args.out.now) (g.K.Sink.written c.tell_and_put.new.out) c.told_of.ensures.files c.told_of.ensures.later c.tell_and_put.ensures.ends)

pub returns-in-Ok-clause-files : goal.returns-in-Ok-clause-files
returns-in-Ok-clause-files g c =
    any_files (concat c.in-Ok.told.lines) c.in-Ok.told.image c.args.out_name.now (g.S.Store.faults c.args.store.now) (g.S.Store.faults c.tell_and_put.new.store) (g.K.Sink.faults c.args.out.now) (g.K.Sink.faults c.tell_and_put.new.out) c.tell_and_put.result (g.S.Store.files c.tell_and_put.new.store) (g.K.Sink.written c.args.out.now) (g.K.Sink.written c.tell_and_put.new.out) c.args.old.now c.args.new.now c.in-Ok.ensures.tells.0 (g.S.Store.files c.args.store.now) c.in-Ok.ensures.tells.1 (comes c.in-Ok.ensures.tells.0 c.in-Ok.told c.in-Ok.ensures.tells.2)
    (over_same (concat c.in-Ok.told.lines) c.in-Ok.told.image (g.S.Store.files c.told_of.new.store) (g.S.Store.files c.args.store.now) c.args.out_name.now (g.S.Store.faults c.args.store.now) (g.S.Store.faults c.told_of.new.store) (g.S.Store.faults c.tell_and_put.new.store) (g.K.Sink.faults c.args.out.now) (g.K.Sink.faults c.tell_and_put.new.out) c.tell_and_put.result (g.S.Store.files c.tell_and_put.new.store) (g.K.Sink.written c.args.out.now) (g.K.Sink.written c.tell_and_put.new.out) c.told_of.ensures.files c.told_of.ensures.later c.tell_and_put.ensures.ends)

pub returns-in-Ok-clause-witnessed : goal.returns-in-Ok-clause-witnessed
returns-in-Ok-clause-witnessed g c = λ not6 not8 not10.
    witnessed_told (g.S.Store.files c.args.store.now) c.args.out_name.now c.args.old.now c.args.new.now c.tell_and_put.result (g.S.Store.faults c.args.store.now) (g.S.Store.faults c.tell_and_put.new.store) (g.S.Store.files c.tell_and_put.new.store) (g.K.Sink.written c.args.out.now) (g.K.Sink.written c.tell_and_put.new.out)
    (any_ends (concat c.in-Ok.told.lines) c.in-Ok.told.image c.args.out_name.now (g.S.Store.faults c.args.store.now) (g.S.Store.faults c.tell_and_put.new.store) (g.K.Sink.faults c.args.out.now) (g.K.Sink.faults c.tell_and_put.new.out) c.tell_and_put.result (g.S.Store.files c.tell_and_put.new.store) (g.K.Sink.written c.args.out.now) (g.K.Sink.written c.tell_and_put.new.out) c.args.old.now c.args.new.now c.in-Ok.ensures.tells.0 (g.S.Store.files c.args.store.now) c.in-Ok.ensures.tells.1 (comes c.in-Ok.ensures.tells.0 c.in-Ok.told c.in-Ok.ensures.tells.2)
    (over_same (concat c.in-Ok.told.lines) c.in-Ok.told.image (g.S.Store.files c.told_of.new.store) (g.S.Store.files c.args.store.now) c.args.out_name.now (g.S.Store.faults c.args.store.now) (g.S.Store.faults c.told_of.new.store) (g.S.Store.faults c.tell_and_put.new.store) (g.K.Sink.faults c.args.out.now) (g.K.Sink.faults c.tell_and_put.new.out) c.tell_and_put.result (g.S.Store.files c.tell_and_put.new.store) (g.K.Sink.written c.args.out.now) (g.K.Sink.written c.tell_and_put.new.out) c.told_of.ensures.files c.told_of.ensures.later c.tell_and_put.ensures.ends) not6 not8 not10)
    (any_files (concat c.in-Ok.told.lines) c.in-Ok.told.image c.args.out_name.now (g.S.Store.faults c.args.store.now) (g.S.Store.faults c.tell_and_put.new.store) (g.K.Sink.faults c.args.out.now) (g.K.Sink.faults c.tell_and_put.new.out) c.tell_and_put.result (g.S.Store.files c.tell_and_put.new.store) (g.K.Sink.written c.args.out.now) (g.K.Sink.written c.tell_and_put.new.out) c.args.old.now c.args.new.now c.in-Ok.ensures.tells.0 (g.S.Store.files c.args.store.now) c.in-Ok.ensures.tells.1 (comes c.in-Ok.ensures.tells.0 c.in-Ok.told c.in-Ok.ensures.tells.2)
    (over_same (concat c.in-Ok.told.lines) c.in-Ok.told.image (g.S.Store.files c.told_of.new.store) (g.S.Store.files c.args.store.now) c.args.out_name.now (g.S.Store.faults c.args.store.now) (g.S.Store.faults c.told_of.new.store) (g.S.Store.faults c.tell_and_put.new.store) (g.K.Sink.faults c.args.out.now) (g.K.Sink.faults c.tell_and_put.new.out) c.tell_and_put.result (g.S.Store.files c.tell_and_put.new.store) (g.K.Sink.written c.args.out.now) (g.K.Sink.written c.tell_and_put.new.out) c.told_of.ensures.files c.told_of.ensures.later c.tell_and_put.ensures.ends))
