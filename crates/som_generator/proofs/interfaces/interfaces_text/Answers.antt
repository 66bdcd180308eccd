use Rattle.som_generator.specs.Generated.{interface_line}
use Rattle.som_generator.proofs.Pieces.{lines_more}
use Rattle.som_generator.proofs.interfaces.interfaces_text.Goals as goal

pub loop-number-preserved : goal.loop-number-preserved
loop-number-preserved c =
    lines_more (interface_line c.args.edition) c.loop-number.number c.add_top.new.text.items c.loop-number.text.items c.add_interface.new.text.items c.loop-number.invariant c.in_ok-add_interface.ensures
