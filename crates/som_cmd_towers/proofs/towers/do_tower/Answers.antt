use Rattle.std.proofs.Common.{ap, sym}
use Rattle.som_cmd_tower_check.specs.TowerCheckAnswer.{IsTowerCheckAnswer}
use Rattle.som_cmd_tower_make.specs.TowerMakeAnswer.{IsTowerMakeAnswer}
use Rattle.som_cmd_tower_run.specs.TowerRunAnswer.{IsTowerRunAnswer}
use Rattle.som_cmd_towers.specs.Asked.{Make, Compare, RunOn, tower_by}
use Rattle.som_cmd_towers.proofs.Doing.{ends, fronts}
use Rattle.som_cmd_towers.proofs.towers.do_tower.Goals as goal

pub returns-in-Make-clause-answered : goal.returns-in-Make-clause-answered
returns-in-Make-clause-answered g c = λ not6 not8 not10.
    ends (tower_by c.args.command) (Make c.in-Make.name.now c.in-Make.below.now c.in-Make.files.now) (ap tower_by (sym c.in-Make.is)) (IsTowerMakeAnswer c.in-Make.name.now c.in-Make.below.now c.in-Make.files.now) (λ files e a. a) (g.S.Store.files c.args.store.now) c.build_level.result (g.S.Store.files c.build_level.new.store) (g.K.Sink.written c.args.out.now) (g.K.Sink.written c.build_level.new.out) (c.build_level.ensures.answered not6 not8 not10)

pub returns-in-Make-clause-front : goal.returns-in-Make-clause-front
returns-in-Make-clause-front g c = λ either.
    fronts (tower_by c.args.command) (Make c.in-Make.name.now c.in-Make.below.now c.in-Make.files.now) (ap tower_by (sym c.in-Make.is)) (IsTowerMakeAnswer c.in-Make.name.now c.in-Make.below.now c.in-Make.files.now) (λ files e a. a) (g.S.Store.files c.args.store.now) (g.S.Store.faults c.args.store.now) (g.S.Store.faults c.build_level.new.store) (g.K.Sink.written c.args.out.now) (g.K.Sink.written c.build_level.new.out) (c.build_level.ensures.front either)

pub returns-in-Check-clause-answered : goal.returns-in-Check-clause-answered
returns-in-Check-clause-answered g c = λ not6 not8 not10.
    ends (tower_by c.args.command) (Compare c.in-Check.old.now c.in-Check.new.now) (ap tower_by (sym c.in-Check.is)) (IsTowerCheckAnswer c.in-Check.old.now c.in-Check.new.now) (λ files e a. a) (g.S.Store.files c.args.store.now) c.check_levels.result (g.S.Store.files c.check_levels.new.store) (g.K.Sink.written c.args.out.now) (g.K.Sink.written c.check_levels.new.out) (c.check_levels.ensures.answered not6 not8 not10)

pub returns-in-Check-clause-front : goal.returns-in-Check-clause-front
returns-in-Check-clause-front g c = λ either.
    fronts (tower_by c.args.command) (Compare c.in-Check.old.now c.in-Check.new.now) (ap tower_by (sym c.in-Check.is)) (IsTowerCheckAnswer c.in-Check.old.now c.in-Check.new.now) (λ files e a. a) (g.S.Store.files c.args.store.now) (g.S.Store.faults c.args.store.now) (g.S.Store.faults c.check_levels.new.store) (g.K.Sink.written c.args.out.now) (g.K.Sink.written c.check_levels.new.out) (c.check_levels.ensures.front either)

pub returns-in-Run-clause-answered : goal.returns-in-Run-clause-answered
returns-in-Run-clause-answered g c = λ not6 not8 not10.
    ends (tower_by c.args.command) (RunOn c.in-Run.client.now c.in-Run.below.now c.in-Run.fuel) (ap tower_by (sym c.in-Run.is)) (IsTowerRunAnswer c.in-Run.client.now c.in-Run.below.now c.in-Run.fuel) (λ files e a. a) (g.S.Store.files c.args.store.now) c.run_tower.result (g.S.Store.files c.run_tower.new.store) (g.K.Sink.written c.args.out.now) (g.K.Sink.written c.run_tower.new.out) (c.run_tower.ensures.answered not6 not8 not10)

pub returns-in-Run-clause-front : goal.returns-in-Run-clause-front
returns-in-Run-clause-front g c = λ either.
    fronts (tower_by c.args.command) (RunOn c.in-Run.client.now c.in-Run.below.now c.in-Run.fuel) (ap tower_by (sym c.in-Run.is)) (IsTowerRunAnswer c.in-Run.client.now c.in-Run.below.now c.in-Run.fuel) (λ files e a. a) (g.S.Store.files c.args.store.now) (g.S.Store.faults c.args.store.now) (g.S.Store.faults c.run_tower.new.store) (g.K.Sink.written c.args.out.now) (g.K.Sink.written c.run_tower.new.out) (c.run_tower.ensures.front either)
