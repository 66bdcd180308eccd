use Rattle.som_cmd_witness.proofs.LineLaws.{some_bodies}
use Rattle.som_cmd_witness.proofs.lines.add_bodies.Goals as goal

pub returns-else-rule-eq1 : goal.returns-else-rule-eq1
returns-else-rule-eq1 c = some_bodies c.args.rule c.add_file.result c.args.lines.now c.add_file.new.lines c.args.bodies.now c.if-rule-eq1.false c.add_file.ensures
