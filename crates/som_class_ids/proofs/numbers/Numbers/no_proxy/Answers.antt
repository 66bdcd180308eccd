use Rattle.som_class_ids.specs.Classes.{classes_of}
use Rattle.som_class_ids.proofs.Making.{proxy_none}
use Rattle.som_class_ids.proofs.numbers.Numbers.no_proxy.Goals as goal

pub returns-clause-proxy : goal.returns-clause-proxy
returns-clause-proxy c = rw (← c.self.view_is) (proxy_none (classes_of c.self.inside.classes) c.self.inside.positions c.self.invariant.numbers c.args.of.now (rw (← c.self.view_is) at c.requires))
