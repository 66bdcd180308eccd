use Rattle.som_cmd_tower_run.proofs.FlatAlone.{flat_alone}
use Rattle.som_cmd_tower_run.proofs.OneLevel.{breach_alone, compatible_alone, means_alone, runs_alone, unkept_alone}
use Rattle.som_cmd_tower_run.proofs.laws.one_level_law.Goals as goal

pub returns-clause-flat : goal.returns-clause-flat
returns-clause-flat c = flat_alone

pub returns-clause-means : goal.returns-clause-means
returns-clause-means c = means_alone

pub returns-clause-breach : goal.returns-clause-breach
returns-clause-breach c = breach_alone

pub returns-clause-compatible : goal.returns-clause-compatible
returns-clause-compatible c = compatible_alone

pub returns-clause-runs : goal.returns-clause-runs
returns-clause-runs c files client library base t fuel status left before after u kept e = runs_alone files client library base t u fuel status left before after e kept

pub returns-clause-unkept : goal.returns-clause-unkept
returns-clause-unkept c files client library base t fuel status left before after b u is e = unkept_alone files client library base t u fuel status left before after e b is
