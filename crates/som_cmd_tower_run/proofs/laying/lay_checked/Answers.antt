use Rattle.som_class_kernel.specs.Linked.{Linkage}
use Rattle.som_cmd_tower_run.proofs.Breaking.{fault_low}
use Rattle.som_cmd_tower_run.proofs.Laid.{fault_refused}
use Rattle.som_cmd_tower_run.proofs.laying.lay_checked.Goals as goal

pub stop_of-requires : goal.stop_of-requires
stop_of-requires c = fault_low c.breach_level_law.ensures Linkage c.args.below.now c.args.tower.now c.in-Err.fault c.requires.tower c.requires.many c.in-Err.ensures.tells

pub returns-in-Err-clause-refuses : goal.returns-in-Err-clause-refuses
returns-in-Err-clause-refuses c = fault_refused c.breach_level_law.ensures Linkage c.args.below.now c.args.tower.now c.in-Err.fault c.stop_of.result c.requires.tower c.requires.many c.in-Err.ensures.tells c.stop_of.ensures.stops
