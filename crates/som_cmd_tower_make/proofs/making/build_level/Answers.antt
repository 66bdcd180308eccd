use Rattle.std.proofs.Common.{[], ◌∷◌}
use Rattle.som_cmd_steps.proofs.Printed.{fails}
use Rattle.som_cmd_steps.proofs.Statuses.{ends_in}
use Rattle.som_cmd_build.proofs.PutEndLaws.{put_ends, put_fronts, has_cause, keeps_told}
use Rattle.som_cmd_build.specs.PutSteps.{outcome_of}
use Rattle.som_cmd_tower_make.specs.Cause.{FailsGettingTower, FailsTowerMake}
use Rattle.som_cmd_tower_make.specs.TowerMakeAnswer.{CompilesTower, has_main}
use Rattle.som_cmd_tower_make.specs.TowerParts.{tower_in}
use Rattle.som_cmd_tower_make.proofs.TowerAnswered.{tower_answer}
use Rattle.som_cmd_tower_make.proofs.TowerRefusals.{level_ends_in}
use Rattle.som_cmd_tower_make.proofs.making.build_level.Goals as goal

pub returns-clause-answered : goal.returns-clause-answered
returns-clause-answered g c = λ not6 not8 not10.
    put_ends (CompilesTower (has_main c.args.files.now)) c.args.name.now (tower_in c.args.below.now c.args.files.now) (g.S.Store.files c.args.store.now) c.put_level.result (g.S.Store.files c.put_level.new.store) c.put_level.ensures.puts c.tell_put.result (g.K.Sink.written c.args.out.now) (g.K.Sink.written c.tell_put.new.out) (c.tell_put.ensures.all not6 not8 not10)

pub returns-clause-store_failed : goal.returns-clause-store_failed
returns-clause-store_failed g c = λ six.
    fails (FailsTowerMake (g.S.Store.files c.args.store.now) c.args.name.now c.args.below.now c.args.files.now) (outcome_of c.put_level.result) (g.S.Store.faults c.args.store.now) (g.S.Store.faults c.put_level.new.store)
    (has_cause (CompilesTower (has_main c.args.files.now)) c.args.name.now (tower_in c.args.below.now c.args.files.now) (FailsGettingTower (g.S.Store.files c.args.store.now) c.args.below.now c.args.files.now) (g.S.Store.files c.args.store.now) c.put_level.result (g.S.Store.files c.put_level.new.store) c.put_level.ensures.puts (g.S.Store.faults c.args.store.now) (g.S.Store.faults c.put_level.new.store) c.put_level.ensures.cause)
    (g.K.Sink.written c.args.out.now) (g.K.Sink.written c.tell_put.new.out) (c.tell_put.ensures.store_failed six)

pub returns-clause-front : goal.returns-clause-front
returns-clause-front g c = λ _.
    put_fronts (CompilesTower (has_main c.args.files.now)) c.args.name.now (tower_in c.args.below.now c.args.files.now) (FailsGettingTower (g.S.Store.files c.args.store.now) c.args.below.now c.args.files.now) (λ before. tower_answer before c.args.name.now c.args.below.now c.args.files.now c.requires.some c.requires.few c.requires.mains) (g.S.Store.files c.args.store.now) c.put_level.result (g.S.Store.files c.put_level.new.store) c.put_level.ensures.puts (g.S.Store.faults c.args.store.now) (g.S.Store.faults c.put_level.new.store) c.put_level.ensures.cause (g.K.Sink.written c.args.out.now) (g.K.Sink.written c.tell_put.new.out) c.tell_put.ensures.front

pub returns-clause-files : goal.returns-clause-files
returns-clause-files g c =
    keeps_told (CompilesTower (has_main c.args.files.now)) c.args.name.now (tower_in c.args.below.now c.args.files.now) (FailsGettingTower (g.S.Store.files c.args.store.now) c.args.below.now c.args.files.now) (g.S.Store.files c.args.store.now) c.put_level.result (g.S.Store.files c.put_level.new.store) c.put_level.ensures.puts (g.S.Store.faults c.args.store.now) (g.S.Store.faults c.put_level.new.store) c.tell_put.result c.put_level.ensures.cause (g.K.Sink.written c.args.out.now) (g.K.Sink.written c.tell_put.new.out) c.tell_put.ensures.all c.tell_put.ensures.store_failed c.tell_put.ensures.front c.tell_put.ensures.done

pub returns-clause-statuses : goal.returns-clause-statuses
returns-clause-statuses g c = ends_in (4 ∷ 5 ∷ 0 ∷ 3 ∷ 7 ∷ 11 ∷ []) c.tell_put.result (g.K.Sink.written c.args.out.now) (g.K.Sink.written c.tell_put.new.out) (outcome_of c.put_level.result) (level_ends_in c.put_level.result c.put_level.ensures.refuses) c.tell_put.ensures.all
