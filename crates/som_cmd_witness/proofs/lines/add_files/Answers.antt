use Rattle.som_cmd_witness.proofs.LineLaws.{all_files}
use Rattle.som_cmd_witness.proofs.lines.add_files.Goals as goal

pub returns : goal.returns
returns c =
    all_files c.args.rule c.args.texts.now c.add_file-2.result c.args.lines.now c.add_file.new.lines c.add_bodies.new.lines c.add_file-2.new.lines c.in_ok-add_file.ensures c.in_ok-add_bodies.ensures c.add_file-2.ensures
