use Rattle.som_class_load_order.proofs.Choosing.{second_key, second_numbered}
use Rattle.som_class_load_order.proofs.choice.som_class.Goals as goal

pub returns-clause-numbered : goal.returns-clause-numbered
returns-clause-numbered c = rw c.new.ensures (second_numbered c.args.classes.now c.requires)

pub returns-clause-key : goal.returns-clause-key
returns-clause-key c = rw c.new.ensures (second_key c.args.classes.now c.requires)
