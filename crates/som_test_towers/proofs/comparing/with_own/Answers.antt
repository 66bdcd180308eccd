use Rattle.som_tower.proofs.Climbing.{is_flat}
use Rattle.som_test_towers.proofs.comparing.with_own.Goals as goal

pub new-requires : goal.new-requires
new-requires c = is_flat c.args.level.now c.requires
