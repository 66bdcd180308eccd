use Rattle.som_cmd_tower_run.proofs.Checked.{is_tower}
use Rattle.som_cmd_tower_run.proofs.checking.checked_tower.Goals as goal

pub returns-clause-tower : goal.returns-clause-tower
returns-clause-tower c =
    is_tower c.args.below.now c.in_ok-levels.levels c.in_ok-client_level.client_level c.requires.few c.in_ok-levels.ensures.levels c.in_ok-look_at_levels.ensures.conform c.in_ok-client_level.ensures.at c.in_ok-look_at_program.ensures.conforms
