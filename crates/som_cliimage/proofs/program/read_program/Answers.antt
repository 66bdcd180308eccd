use Rattle.som_cliimage.proofs.NamedClient.{given_by_names}
use Rattle.som_cliimage.proofs.program.read_program.Goals as goal

pub returns : goal.returns
returns c = given_by_names c.args.form.now c.args.bytes.now c.args.place c.read_named.result c.read_named.ensures
