use Rattle.som_cliimage.proofs.Decoded.{found, spelled, within, only, only_spelled}
use Rattle.som_cliimage.proofs.client.decode.Goals as goal

pub returns-clause-found : goal.returns-clause-found
returns-clause-found c = found c.args.bytes.now c.as_bytes-all.ensures.bytes c.read_program.result c.read_program.ensures

pub returns-clause-spelled : goal.returns-clause-spelled
returns-clause-spelled c = spelled c.args.bytes.now c.as_bytes-all.ensures.bytes c.read_program.result c.read_program.ensures

pub returns-clause-within : goal.returns-clause-within
returns-clause-within c = within c.args.bytes.now c.as_bytes-all.ensures.bytes c.read_program.result c.read_program.ensures

pub returns-clause-only : goal.returns-clause-only
returns-clause-only c = only c.args.bytes.now c.read_program.result c.read_program.ensures

pub returns-clause-only_spelled : goal.returns-clause-only_spelled
returns-clause-only_spelled c = only_spelled c.args.bytes.now c.read_program.result c.read_program.ensures
