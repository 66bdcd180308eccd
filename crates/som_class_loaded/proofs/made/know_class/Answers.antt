use Rattle.som_class_loaded.proofs.Parts.{parents_low}
use Rattle.som_class_loaded.proofs.made.know_class.Goals as goal

pub returns-clause-lower : goal.returns-clause-lower
returns-clause-lower c =
    parents_low c.args.classes.now c.count-count.ensures.apart c.args.class c.requires c.parents-parents.result.now c.parents-parents.ensures.lower c.parents-parents.ensures.keys
