use Rattle.som_cmd_levels.proofs.Stacking.{all_conform}
use Rattle.som_cmd_levels.proofs.rules.look_at_levels.Goals as goal

pub returns-clause-conform : goal.returns-clause-conform
returns-clause-conform c = all_conform c.args.below.now c.as_slice.result.now c.look_at_uppers.result c.as_slice.ensures c.in_ok-look_at_rules.ensures.conforms c.look_at_uppers.ensures.conform
