use Rattle.som_class_table.proofs.Proxying.{named_all, named_next}
use Rattle.som_class_table.proofs.proxies.proxied_by_classes.Goals as goal

pub loop-class-preserved : goal.loop-class-preserved
loop-class-preserved c = named_next c.args.classes.now c.loop-class.class-index c.class-item.result c.loop-class.named c.in_ok-named.named c.loop-class-test.true c.class-item.is c.loop-class.invariant c.in_ok-named.ensures

pub returns : goal.returns
returns c = named_all c.args.classes.now c.loop-class.class-index c.loop-class.named c.loop-class-test.false c.loop-class.invariant
