use Rattle.std.proofs.Common.{[], ◌∷◌}
use Rattle.som_cmd_steps.specs.Getting.{FailsGetting}
use Rattle.som_cmd_steps.proofs.Printed.{ends, fails, fronts}
use Rattle.som_cmd_steps.proofs.Statuses.{ends_in}
use Rattle.som_cmd_tower_check.specs.TowerCheckAnswer.{IsTowerCheckAnswer}
use Rattle.som_cmd_tower_check.proofs.CheckLaws.{some_tower_check_answer}
use Rattle.som_cmd_tower_check.proofs.check.check_levels.Goals as goal

pub returns-clause-answered : goal.returns-clause-answered
returns-clause-answered g c = λ not6 not8 not10.
    ends (IsTowerCheckAnswer c.args.old.now c.args.new.now) (g.S.Store.files c.args.store.now) c.check_output.result c.check_output.ensures.answer c.tell.result (g.S.Store.files c.check_output.new.store) c.check_output.ensures.files (g.K.Sink.written c.args.out.now) (g.K.Sink.written c.tell.new.out) (c.tell.ensures.all not6 not8 not10)

pub returns-clause-store_failed : goal.returns-clause-store_failed
returns-clause-store_failed g c = λ six. fails (FailsGetting (g.S.Store.files c.args.store.now) (c.args.old.now ∷ c.args.new.now ∷ [])) c.check_output.result (g.S.Store.faults c.args.store.now) (g.S.Store.faults c.check_output.new.store) c.check_output.ensures.cause (g.K.Sink.written c.args.out.now) (g.K.Sink.written c.tell.new.out) (c.tell.ensures.store_failed six)

pub returns-clause-front : goal.returns-clause-front
returns-clause-front g c = λ _.
    fronts (IsTowerCheckAnswer c.args.old.now c.args.new.now) (FailsGetting (g.S.Store.files c.args.store.now) (c.args.old.now ∷ c.args.new.now ∷ [])) (λ before. some_tower_check_answer before c.args.old.now c.args.new.now) (g.S.Store.files c.args.store.now) c.check_output.result c.check_output.ensures.answer (g.S.Store.faults c.args.store.now) (g.S.Store.faults c.check_output.new.store) c.check_output.ensures.cause (g.K.Sink.written c.args.out.now) (g.K.Sink.written c.tell.new.out) c.tell.ensures.front

pub returns-clause-statuses : goal.returns-clause-statuses
returns-clause-statuses g c = ends_in (0 ∷ 4 ∷ 5 ∷ 7 ∷ []) c.tell.result (g.K.Sink.written c.args.out.now) (g.K.Sink.written c.tell.new.out) c.check_output.result c.check_output.ensures.ends c.tell.ensures.all
