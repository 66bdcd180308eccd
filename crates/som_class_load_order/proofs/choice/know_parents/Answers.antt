use Rattle.som_class_load_order.proofs.Choosing.{parents_there}
use Rattle.som_class_load_order.proofs.choice.know_parents.Goals as goal

pub returns : goal.returns
returns c = parents_there c.args.classes.now c.args.class c.parents-parents.result.now c.requires c.parents-parents.ensures.lower c.parents-parents.ensures.keys
