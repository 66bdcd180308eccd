use Rattle.som_libimage.proofs.NamedLibrary.{given_by_names}
use Rattle.som_libimage.proofs.release.read_release.Goals as goal

pub returns : goal.returns
returns c = given_by_names c.args.bytes.now c.read_named.result c.read_named.ensures
