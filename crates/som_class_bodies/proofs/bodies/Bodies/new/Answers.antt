use Rattle.std.proofs.Common.{◌∙◌}
use Rattle.som_class_bodies.proofs.Facts.{none_filled}
use Rattle.som_class_bodies.proofs.bodies.Bodies.new.Goals as goal

pub returns-clause-bodies : goal.returns-clause-bodies
returns-clause-bodies c = rw c.new.ensures (none_filled c.args.classes.now c.in_ok-table.table (c.in_ok-table.ensures.each ∙ c.count-count.ensures.count) c.in_ok-table.ensures.none)
