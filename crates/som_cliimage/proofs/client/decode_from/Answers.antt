use Rattle.som_cliimage.proofs.Decoded.{from_spelled, from_only}
use Rattle.som_cliimage.proofs.client.decode_from.Goals as goal

pub returns-clause-spelled : goal.returns-clause-spelled
returns-clause-spelled c = from_spelled c.args.form.now c.args.bytes.now c.as_bytes-all.ensures.bytes c.args.place c.requires c.read_program.result c.read_program.ensures

pub returns-clause-only_spelled : goal.returns-clause-only_spelled
returns-clause-only_spelled c = from_only c.args.form.now c.args.bytes.now c.args.place c.requires c.read_program.result c.read_program.ensures
