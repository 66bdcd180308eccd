use Rattle.som_class_ids.proofs.Naming.{in_key, in_within}
use Rattle.som_class_ids.proofs.named.find_in.Goals as goal

pub returns-clause-within : goal.returns-clause-within
returns-clause-within c = in_within c.args.classes.now c.requires.declared c.args.home c.args.name.now c.find_named.result c.find_named.ensures.some

pub returns-clause-key : goal.returns-clause-key
returns-clause-key c = in_key c.args.classes.now c.requires.declared c.args.home c.args.name.now c.find_named.result c.find_named.ensures.some c.find_named.ensures.none
