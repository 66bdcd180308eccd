use Rattle.std.proofs.Common.{[], ◌∷◌}
use Rattle.som_cmd_steps.proofs.Printed.{fails}
use Rattle.som_cmd_steps.proofs.Statuses.{ends_in}
use Rattle.som_cmd_sources.specs.Getting.{FailsGettingParts}
use Rattle.som_cmd_sources.specs.Parts.{parts_in}
use Rattle.som_cmd_build.specs.ClientAnswer.{CompilesParts}
use Rattle.som_cmd_build.specs.Cause.{FailsClient}
use Rattle.som_cmd_build.specs.PutSteps.{outcome_of}
use Rattle.som_cmd_build.proofs.BuildRefusals.{client_ends_in}
use Rattle.som_cmd_build.proofs.PutAnswered.{client_answer}
use Rattle.som_cmd_build.proofs.PutEndLaws.{put_ends, put_fronts, has_cause, keeps_told}
use Rattle.som_cmd_build.proofs.client.build_client.Goals as goal

pub returns-clause-answered : goal.returns-clause-answered
returns-clause-answered g c = λ not6 not8 not10.
    put_ends CompilesParts c.args.name.now (parts_in c.args.library.now c.args.names.now) (g.S.Store.files c.args.store.now) c.put_client.result (g.S.Store.files c.put_client.new.store) c.put_client.ensures.puts c.tell_put.result (g.K.Sink.written c.args.out.now) (g.K.Sink.written c.tell_put.new.out) (c.tell_put.ensures.all not6 not8 not10)

pub returns-clause-store_failed : goal.returns-clause-store_failed
returns-clause-store_failed g c = λ six.
    fails (FailsClient (g.S.Store.files c.args.store.now) c.args.name.now c.args.library.now c.args.names.now) (outcome_of c.put_client.result) (g.S.Store.faults c.args.store.now) (g.S.Store.faults c.put_client.new.store)
    (has_cause CompilesParts c.args.name.now (parts_in c.args.library.now c.args.names.now) (FailsGettingParts (g.S.Store.files c.args.store.now) c.args.library.now c.args.names.now) (g.S.Store.files c.args.store.now) c.put_client.result (g.S.Store.files c.put_client.new.store) c.put_client.ensures.puts (g.S.Store.faults c.args.store.now) (g.S.Store.faults c.put_client.new.store) c.put_client.ensures.cause)
    (g.K.Sink.written c.args.out.now) (g.K.Sink.written c.tell_put.new.out) (c.tell_put.ensures.store_failed six)

pub returns-clause-front : goal.returns-clause-front
returns-clause-front g c = λ _.
    put_fronts CompilesParts c.args.name.now (parts_in c.args.library.now c.args.names.now) (FailsGettingParts (g.S.Store.files c.args.store.now) c.args.library.now c.args.names.now) (λ before. client_answer before c.args.name.now c.args.library.now c.args.names.now c.requires) (g.S.Store.files c.args.store.now) c.put_client.result (g.S.Store.files c.put_client.new.store) c.put_client.ensures.puts (g.S.Store.faults c.args.store.now) (g.S.Store.faults c.put_client.new.store) c.put_client.ensures.cause (g.K.Sink.written c.args.out.now) (g.K.Sink.written c.tell_put.new.out) c.tell_put.ensures.front

pub returns-clause-files : goal.returns-clause-files
returns-clause-files g c =
    keeps_told CompilesParts c.args.name.now (parts_in c.args.library.now c.args.names.now) (FailsGettingParts (g.S.Store.files c.args.store.now) c.args.library.now c.args.names.now) (g.S.Store.files c.args.store.now) c.put_client.result (g.S.Store.files c.put_client.new.store) c.put_client.ensures.puts (g.S.Store.faults c.args.store.now) (g.S.Store.faults c.put_client.new.store) c.tell_put.result c.put_client.ensures.cause (g.K.Sink.written c.args.out.now) (g.K.Sink.written c.tell_put.new.out) c.tell_put.ensures.all c.tell_put.ensures.store_failed c.tell_put.ensures.front c.tell_put.ensures.done

pub returns-clause-statuses : goal.returns-clause-statuses
returns-clause-statuses g c = ends_in (5 ∷ 0 ∷ 3 ∷ 7 ∷ 11 ∷ []) c.tell_put.result (g.K.Sink.written c.args.out.now) (g.K.Sink.written c.tell_put.new.out) (outcome_of c.put_client.result) (client_ends_in c.put_client.result c.put_client.ensures.refuses) c.tell_put.ensures.all
