use Rattle.som_generator.specs.Generated.{body_lines}
use Rattle.som_generator.proofs.Pieces.{lines_more}
use Rattle.som_generator.proofs.bodies.bodies_text.Goals as goal

pub loop-number-preserved : goal.loop-number-preserved
loop-number-preserved c =
    lines_more (body_lines c.args.edition) c.loop-number.number c.add_top.new.text.items c.loop-number.text.items c.add_bodies.new.text.items c.loop-number.invariant c.in_ok-add_bodies.ensures
