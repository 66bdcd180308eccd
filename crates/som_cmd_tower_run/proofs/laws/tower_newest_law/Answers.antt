use Rattle.std.proofs.Common.{Some, ◌∷◌}
use Rattle.som_cmd_steps.specs.Getting.{FailsGetting}
use Rattle.som_cmd_tower_run.proofs.TowerNewestLaws.{newest_keep, newest_under, runs_newest}
use Rattle.som_cmd_tower_run.proofs.laws.tower_newest_law.Goals as goal

pub returns-clause-under : goal.returns-clause-under
returns-clause-under c files client below earlier base lists newest texts t h few = newest_under files client below earlier base lists newest texts t h few

pub returns-clause-unbroken : goal.returns-clause-unbroken
returns-clause-unbroken c files client below earlier base lists newest texts t h few = newest_keep files client below earlier base lists newest texts t h few

pub returns-clause-runs : goal.returns-clause-runs
returns-clause-runs c files client below earlier base lists newest texts t h few fuel store_before store_now sink_before sink_now status left before after =
    runs_newest files client below earlier base lists newest texts t h few fuel (FailsGetting (Some files) (client ∷ below)) store_before store_now sink_before sink_now status left before after
