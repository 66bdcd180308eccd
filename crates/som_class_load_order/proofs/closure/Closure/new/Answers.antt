use Rattle.som_class_load_order.proofs.Closing.{made_of_roots}
use Rattle.som_class_load_order.proofs.closure.Closure.new.Goals as goal

pub returns-clause-made : goal.returns-clause-made
returns-clause-made c =
    let old = c.in_ok-classes.classes in
    made_of_roots old c.number_metaclasses.new.classes c.args.main.now c.in_ok-metas.ensures.classes c.in_ok-classes.ensures.keys c.in_ok-metas.ensures.keys
