use Rattle.som_class_ids.proofs.Naming.{higher_all, higher_more}
use Rattle.som_class_ids.proofs.named.highest_level.Goals as goal

pub loop-class-preserved : goal.loop-class-preserved
loop-class-preserved c = rw (c.higher-highest.ensures, c.level_of_class.ensures)
    (higher_more c.args.classes.now c.loop-class.class-index c.class-item.result c.loop-class.highest _ c.loop-class-test.true c.class-item.is c.loop-class.invariant)

pub returns : goal.returns
returns c = higher_all c.args.classes.now c.loop-class.class-index c.loop-class.highest _ c.loop-class-test.false c.loop-class.invariant
