use Rattle.som_cmd_tower_check.proofs.Promising.{promised_so}
use Rattle.som_cmd_tower_check.proofs.compare.promised.Goals as goal

pub returns : goal.returns
returns c = promised_so c.args.level.now c.in_ok-modules.modules c.in_ok-levels.levels c.push.new.self c.in_ok-own_interface.field-0 c.in_ok-modules.ensures c.in_ok-levels.ensures c.in_ok-own_interface.ensures c.in_ok-push.ensures.ok
