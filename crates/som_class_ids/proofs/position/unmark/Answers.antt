use Rattle.som_class_ids.proofs.Unmarking.{all_unmarked, only_marked}
use Rattle.som_class_ids.proofs.position.unmark.Goals as goal

pub loop-class-init : goal.loop-class-init
loop-class-init c = only_marked c.args.marks.now c.args.classes.now c.requires

pub returns : goal.returns
returns c = all_unmarked c.loop-class.marks c.args.classes.now c.loop-class.class-index c.loop-class-test.false c.loop-class.invariant
