use Rattle.std.proofs.Common.{arith, ◌∙◌}
use Rattle.som_class_ids.proofs.Making.{declared_not}
use Rattle.som_class_ids.proofs.keys.find_made.Goals as goal

pub loop-number-init : goal.loop-number-init
loop-number-init c = λ m lt e.
    declared_not c.args.numbers.now c.declared_count-number.ensures.declared c.declared_count-number.ensures.first c.requires.0 m (omega (arith, lt, c.declared_count-number.ensures.count)) (e ∙ c.requires.1)
