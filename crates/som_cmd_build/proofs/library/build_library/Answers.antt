use Rattle.std.proofs.Common.{[], ◌∷◌}
use Rattle.som_cmd_steps.proofs.Printed.{fails}
use Rattle.som_cmd_steps.proofs.Statuses.{ends_in}
use Rattle.som_compile.specs.Compiling.{Compiles}
use Rattle.som_cmd_sources.specs.Getting.{FailsGettingTexts}
use Rattle.som_cmd_sources.specs.Texts.{texts_in}
use Rattle.som_cmd_build.specs.Cause.{FailsLibrary}
use Rattle.som_cmd_build.specs.PutSteps.{outcome_of}
use Rattle.som_cmd_build.proofs.BuildRefusals.{library_ends_in}
use Rattle.som_cmd_build.proofs.PutAnswered.{library_answer}
use Rattle.som_cmd_build.proofs.PutEndLaws.{put_ends, put_fronts, has_cause, keeps_told}
use Rattle.som_cmd_build.proofs.library.build_library.Goals as goal

pub returns-clause-answered : goal.returns-clause-answered
returns-clause-answered g c = λ not6 not8 not10.
    put_ends Compiles c.args.name.now (texts_in c.args.names.now) (g.S.Store.files c.args.store.now) c.put_library.result (g.S.Store.files c.put_library.new.store) c.put_library.ensures.puts c.tell_put.result (g.K.Sink.written c.args.out.now) (g.K.Sink.written c.tell_put.new.out) (c.tell_put.ensures.all not6 not8 not10)

pub returns-clause-store_failed : goal.returns-clause-store_failed
returns-clause-store_failed g c = λ six.
    fails (FailsLibrary (g.S.Store.files c.args.store.now) c.args.name.now c.args.names.now) (outcome_of c.put_library.result) (g.S.Store.faults c.args.store.now) (g.S.Store.faults c.put_library.new.store)
    (has_cause Compiles c.args.name.now (texts_in c.args.names.now) (FailsGettingTexts (g.S.Store.files c.args.store.now) c.args.names.now) (g.S.Store.files c.args.store.now) c.put_library.result (g.S.Store.files c.put_library.new.store) c.put_library.ensures.puts (g.S.Store.faults c.args.store.now) (g.S.Store.faults c.put_library.new.store) c.put_library.ensures.cause)
    (g.K.Sink.written c.args.out.now) (g.K.Sink.written c.tell_put.new.out) (c.tell_put.ensures.store_failed six)

pub returns-clause-front : goal.returns-clause-front
returns-clause-front g c = λ _.
    put_fronts Compiles c.args.name.now (texts_in c.args.names.now) (FailsGettingTexts (g.S.Store.files c.args.store.now) c.args.names.now) (λ before. library_answer before c.args.name.now c.args.names.now) (g.S.Store.files c.args.store.now) c.put_library.result (g.S.Store.files c.put_library.new.store) c.put_library.ensures.puts (g.S.Store.faults c.args.store.now) (g.S.Store.faults c.put_library.new.store) c.put_library.ensures.cause (g.K.Sink.written c.args.out.now) (g.K.Sink.written c.tell_put.new.out) c.tell_put.ensures.front

pub returns-clause-files : goal.returns-clause-files
returns-clause-files g c =
    keeps_told Compiles c.args.name.now (texts_in c.args.names.now) (FailsGettingTexts (g.S.Store.files c.args.store.now) c.args.names.now) (g.S.Store.files c.args.store.now) c.put_library.result (g.S.Store.files c.put_library.new.store) c.put_library.ensures.puts (g.S.Store.faults c.args.store.now) (g.S.Store.faults c.put_library.new.store) c.tell_put.result c.put_library.ensures.cause (g.K.Sink.written c.args.out.now) (g.K.Sink.written c.tell_put.new.out) c.tell_put.ensures.all c.tell_put.ensures.store_failed c.tell_put.ensures.front c.tell_put.ensures.done

pub returns-clause-statuses : goal.returns-clause-statuses
returns-clause-statuses g c = ends_in (0 ∷ 3 ∷ 7 ∷ 11 ∷ []) c.tell_put.result (g.K.Sink.written c.args.out.now) (g.K.Sink.written c.tell_put.new.out) (outcome_of c.put_library.result) (library_ends_in c.put_library.result c.put_library.ensures.refuses) c.tell_put.ensures.all
